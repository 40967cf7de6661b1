pub mod Windows1252
