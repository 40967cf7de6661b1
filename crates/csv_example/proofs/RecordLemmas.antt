-- What the records read so far are of the text of a stream whose bytes may be known.
use Rattle.std.proofs.Common.{◌≡◌, ℕ, List, [], ◌∷◌, ◌++◌, Option, Some, None, true, false, refl}
use Rattle.std.specs.Prelude.{IfSome, option_map}
use Rattle.std.specs.Str.Lossy.{utf8_lossy}
use Rattle.csv.specs.Reading.{AreRecords, Reached, ReadRecord, default_config, source_of, strip_bom}
use Rattle.csv.specs.declared.parser.State.{State}
use Rattle.csv.specs.declared.parser.State.TheVariants as state
use Rattle.csv.specs.declared.reader.Reader.{Reader}
use Rattle.csv.proofs.ReadFacts.{rows-end, rows-more}

-- they are the first records of the text, and the reader has the rest of it
abbrev pub AreFirst : Option (List ℕ) → List (List (List ℕ)) → State → Option (List ℕ) → Type 0
AreFirst known records s left = IfSome known (λ bytes. (rest : List ℕ) × (left ≡ Some rest)
    × Reached default_config state.StartRecord (strip_bom (utf8_lossy bytes)) records s rest)

pub start : (known text left : Option (List ℕ)) → text ≡ option_map utf8_lossy known
    → left ≡ option_map strip_bom text → AreFirst known [] state.StartRecord left
unfolding Reached
start None text left t l = tt
start (Some bytes) text left t l = (strip_bom (utf8_lossy bytes), rw t at l, (refl, refl))

pub more : {R : Type 0} (rem : R → Option (List ℕ)) (a b : Reader R) (known : Option (List ℕ)) (records : List (List (List ℕ))) (fields : List (List ℕ))
    → a.config ≡ default_config → AreFirst known records a.state (source_of rem a) → ReadRecord rem a b true fields
    → AreFirst known (records ++ (fields ∷ [])) b.state (source_of rem b)
more rem a b None records fields config first read = tt
more rem a b (Some bytes) records fields config first read =
    rows-more rem a b fields default_config state.StartRecord (strip_bom (utf8_lossy bytes)) first.0 records config first.1 first.2 read

pub all : {R : Type 0} (rem : R → Option (List ℕ)) (a b : Reader R) (known : Option (List ℕ)) (records : List (List (List ℕ)))
    → a.config ≡ default_config → AreFirst known records a.state (source_of rem a) → ReadRecord rem a b false []
    → IfSome known (λ bytes. AreRecords default_config state.StartRecord (strip_bom (utf8_lossy bytes)) records)
all rem a b None records config first read = tt
all rem a b (Some bytes) records config first read = (a.state, first.0, first.2, rows-end rem a b [] default_config first.0 config first.1 read)
