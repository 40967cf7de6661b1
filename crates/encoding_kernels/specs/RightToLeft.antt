-- Right-to-left characters by their first bytes, and the indices of bytes and code units at which none begins.
use Rattle.std.specs.Prelude.{◌≡◌, ℕ, ◌+◌, ◌-◌, ◌%◌, ◌^◌, ◌<◌, ◌≤◌, ◌&&◌, ◌||◌, Bool, not, List, ◌++◌}
use Rattle.std.specs.Prelude.{drop, encode_utf8, slice_index, if◌then◌else◌, nat_le, nat_lt, nat_eq}
use Rattle.std.specs.Char.{IsScalar}
use Rattle.encoding_definitions.specs.Bidi.{IsRightToLeft, IsRightToLeftUnit}

-- U+200F, U+202B, U+202E and U+2067 end with one of these bytes
abbrev pub ends_mark : ℕ → Bool
ends_mark d = ((nat_eq d 0x8F || nat_eq d 0xA7) || nat_eq d 0xAB) || nat_eq d 0xAE

-- the first byte of such a mark if it ends with this byte; else 0xF0, with which others begin in any case
abbrev pub rtl_mark_lead : ℕ → ℕ
rtl_mark_lead d = if ends_mark d then 0xE2 else 0xF0

-- an exclusive bound of the second byte of a right-to-left character with this first byte, 0 if there is none
abbrev pub rtl_second_end : ℕ → ℕ → ℕ
rtl_second_end a mark = (if nat_le 0xD6 a && nat_le a 0xDF then 0xFF else
    (if nat_eq a 0xE0 then 0xA4 else
    (if nat_eq a 0xEF then 0xBC else
    (if nat_eq a 0xF0 then 0x9F else
    (if nat_eq a mark then 0x82 else 0)))))

-- by three bytes, no right-to-left character can begin at index k
abbrev pub HasNoRtlAt : List ℕ → ℕ → Type 0
HasNoRtlAt bs k = rtl_second_end (slice_index bs k) (rtl_mark_lead (slice_index bs (k + 2))) ≤ slice_index bs (k + 1)

-- a right-to-left character may begin with this byte
abbrev pub may_start_rtl : ℕ → ℕ → Bool
may_start_rtl a mark = let high = nat_le 0xD6 a in let punctuation = nat_eq a 0xE2 in (if high then not punctuation else punctuation) || nat_eq a mark

-- the bytes have a right-to-left character at this index
pub record RtlAt (bs : List ℕ) (at : ℕ) : Type 0 where
  pub character : ℕ
  pub rest : List ℕ
  pub scalar : IsScalar character
  pub right_to_left : IsRightToLeft character
  pub spelled : drop at bs ≡ encode_utf8 character ++ rest

-- no right-to-left character is at an index in `from..to`
pub record NoRtlIn (bs : List ℕ) (from to : ℕ) : Type 0 where
  pub each : (k : ℕ) → from ≤ k → k < to → RtlAt bs k → ⊥

-- none of the code units in `from..to` is right-to-left
pub record NoneRightToLeft (us : List ℕ) (from to : ℕ) : Type 0 where
  pub each : (k : ℕ) → from ≤ k → k < to → IsRightToLeftUnit (slice_index us k) → ⊥

-- a code unit is one of the `count` units from `from` on, by one comparison
abbrev pub in_range : ℕ → ℕ → ℕ → Bool
in_range from count u = nat_lt ((u + (2 ^ 16 - from)) % 2 ^ 16) count

-- a code unit is in one of these ranges or is one of these marks, which hold all right-to-left ones and some more
abbrev pub may_be_right_to_left : ℕ → Bool
may_be_right_to_left u = ((in_range 0x0590 0x0370 u || in_range 0x202B 4 u) || (nat_eq u 0x200F || nat_eq u 0x2067)) || (in_range 0xD802 0x003A u || in_range 0xFB1D 0x03E2 u)
