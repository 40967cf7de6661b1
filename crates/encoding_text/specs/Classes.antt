-- What a check of a text for Latin1 and right-to-left characters returns.
use Rattle.encoding_text.specs.declared.mem.bidi.Latin1Bidi.{Latin1Bidi}
use Rattle.encoding_text.specs.declared.mem.bidi.Latin1Bidi.TheVariants.{Latin1, LeftToRight, Bidi}

-- Latin1 if that holds, otherwise right-to-left if that holds, and otherwise neither
abbrev pub Classifies : Type 0 → Type 0 → Latin1Bidi → Type 0
Classifies latin1 bidi Latin1 = latin1
Classifies latin1 bidi Bidi = (¬ latin1) × bidi
Classifies latin1 bidi LeftToRight = (¬ latin1) × (¬ bidi)
