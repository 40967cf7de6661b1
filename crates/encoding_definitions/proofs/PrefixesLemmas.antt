-- Writing at the end of what was written, and longest fitting prefixes: when a prefix of characters is the longest, one
-- after the other, and of characters seen as others.
use Rattle.std.proofs.Common.{◌≡◌, ℕ, ◌+◌, ◌-◌, ◌<◌, ◌≤◌, List, [], ◌∷◌, ◌++◌, length, take, drop, get_or}
use Rattle.std.proofs.Common.{set, refl, sym, ap, ◌∙◌, arith, append_assoc, subst, take-add, zero, suc}
use Rattle.std.specs.List.{flat_map}
use Rattle.std.proofs.lemmas.List.{append-nil, take-append-drop, drop_more, set_at, length_push, length-set, drop_at, take_at, take_all, take_rest}
use Rattle.std.proofs.lemmas.List.{drop_all, drop-drop, length-append, length-drop, length-take-le, take-append-le, take-take, length-map}
use Rattle.std.proofs.lemmas.Slice.{drop-append-drop}
use Rattle.std.proofs.lemmas.Grind.{flat_map-append}
use borrow.Rule.Slice.PartMut.{put_mid}
use Rattle.encoding_definitions.specs.Prefixes.{IsLongestPrefix, WritesPrefix, IsLongestFittingPrefix}
use Rattle.std.specs.Prelude.{map}
use Rattle.std.proofs.Math.Seq.{take-append-add}
use Rattle.std.proofs.lemmas.List.Concat.{flat_map-append}

-- ---- writing
module _ {A : Type 0} where
  put_one : (old out : List A) (n : ℕ) (b : A) → n ≡ length out → n < length old → set (out ++ drop n old) n b ≡ (out ++ b ∷ []) ++ drop (n + 1) old
  put_one old out n b e l = rw (drop_more old n b l) (set_at out (get_or old n b) (drop (n + 1) old) b n (sym e)
      ∙ sym (append_assoc out (b ∷ []) (drop (n + 1) old)))

  pub WritesPrefix-nil : (old : List A) → WritesPrefix old old 0 []
  WritesPrefix-nil old = record { count = refl; fits = omega arith; placed = refl }

  pub WritesPrefix-length : (old new : List A) (n : ℕ) (out : List A) → WritesPrefix old new n out → length new ≡ length old
  WritesPrefix-length old new n out w = omega (arith, ap length w.placed, length-append out (drop n old), length-drop n old, w.count, w.fits)

  -- one more item, at the index after what was written
  pub WritesPrefix_push : (old new : List A) (n : ℕ) (out : List A) (b : A) → WritesPrefix old new n out → n < length new
      → WritesPrefix old (set new n b) (n + 1) (out ++ b ∷ [])
  WritesPrefix_push old new n out b w l =
      let long : length new ≡ length old = WritesPrefix-length old new n out w in
      record {
        count = omega (arith, w.count, length_push out b);
        fits = omega arith;
        placed = ap (λ xs. set xs n b) w.placed ∙ put_one old out n b w.count (omega arith);
      }

  pub WritesPrefix-same : (old new : List A) (n m : ℕ) (out other : List A) → WritesPrefix old new n out → n ≡ m → out ≡ other → WritesPrefix old new m other
  WritesPrefix-same old new n m out other w e f = subst (λ xs. WritesPrefix old new m xs) f (subst (λ k. WritesPrefix old new k out) e w)

  pub WritesPrefix_push_two : (old new : List A) (n : ℕ) (out : List A) (a b : A) → WritesPrefix old new n out → n + 1 < length new
      → WritesPrefix old (set (set new n a) (n + 1) b) (n + 2) (out ++ (a ∷ b ∷ []))
  WritesPrefix_push_two old new n out a b w l =
      let first = WritesPrefix_push old new n out a w (omega arith) in
      let second = WritesPrefix_push _ _ _ _ b first (omega (arith, length-set new n a)) in
      WritesPrefix-same _ _ _ _ _ _ second (omega arith) (append_assoc out (a ∷ []) (b ∷ []))

  pub WritesPrefix_push_three : (old new : List A) (n : ℕ) (out : List A) (a b c : A) → WritesPrefix old new n out → n + 2 < length new
      → WritesPrefix old (set (set (set new n a) (n + 1) b) (n + 2) c) (n + 3) (out ++ (a ∷ b ∷ c ∷ []))
  WritesPrefix_push_three old new n out a b c w l =
      let first = WritesPrefix_push_two old new n out a b w (omega arith) in
      let second = WritesPrefix_push _ _ _ _ c first (omega (arith, length-set (set new n a) (n + 1) b, length-set new n a)) in
      WritesPrefix-same _ _ _ _ _ _ second (omega arith) (append_assoc out (a ∷ b ∷ []) (c ∷ []))

  pub WritesPrefix_push_four : (old new : List A) (n : ℕ) (out : List A) (a b c d : A) → WritesPrefix old new n out → n + 3 < length new
      → WritesPrefix old (set (set (set (set new n a) (n + 1) b) (n + 2) c) (n + 3) d) (n + 4) (out ++ (a ∷ b ∷ c ∷ d ∷ []))
  WritesPrefix_push_four old new n out a b c d w l =
      let first = WritesPrefix_push_three old new n out a b c w (omega arith) in
      let second =
      WritesPrefix_push _ _ _ _ d first
      (omega (arith, length-set (set (set new n a) (n + 1) b) (n + 2) c, length-set (set new n a) (n + 1) b, length-set new n a)) in
      WritesPrefix-same _ _ _ _ _ _ second (omega arith) (append_assoc out (a ∷ b ∷ c ∷ []) (d ∷ []))

  -- m more items at once
  pub WritesPrefix_put : (old new after : List A) (n m : ℕ) (out more : List A) → WritesPrefix old new n out → m ≡ length more → n + m ≤ length new
      → after ≡ take n new ++ (more ++ drop (n + m) new) → WritesPrefix old after (n + m) (out ++ more)
  WritesPrefix_put old new after n m out more w e l put =
      let long : length new ≡ length old = WritesPrefix-length old new n out w in
      let prefix : take n new ≡ out = ap (take n) w.placed ∙ take_at out (drop n old) n (sym w.count) in
      let following : drop n new ≡ drop n old = ap (drop n) w.placed ∙ drop_at out (drop n old) n (sym w.count) in
      let rest : drop (n + m) new ≡ drop (n + m) old = sym (drop-drop m n new) ∙ ap (drop m) following ∙ drop-drop m n old in
      record {
        count = omega (arith, w.count, length-append out more);
        fits = omega arith;
        placed = put ∙ (λ i. prefix i ++ (more ++ rest i)) ∙ sym (append_assoc out more (drop (n + m) old));
      }

  -- m items of a list, from an index that may be before the end of those that were written
  pub WritesPrefix_again : (old new after xs : List A) (n at m : ℕ) → WritesPrefix old new n (take n xs) → at ≤ n → n ≤ at + m → at + m ≤ length xs
      → at + m ≤ length new
      → after ≡ take at new ++ (take m (drop at xs) ++ drop (at + m) new) → WritesPrefix old after (at + m) (take (at + m) xs)
  WritesPrefix_again old new after xs n at m w l more within room put =
      let long : length new ≡ length old = WritesPrefix-length old new n (take n xs) w in
      let short : length (take n xs) ≡ n = sym w.count in
      let prefix : take at new ≡ take at xs = ap (take at) w.placed ∙ take-append-le at (take n xs) (drop n old) (omega (arith, short)) ∙ take-take at n xs l in
      let following : drop (at + m) new ≡ drop (at + m) old = ap (drop (at + m)) w.placed ∙ drop-append-drop n old (take n xs) (at + m) more short in
      record {
        count = sym (length-take-le (at + m) xs within);
        fits = omega arith;
        placed = put ∙ (λ i. prefix i ++ (take m (drop at xs) ++ following i)) ∙ sym (append_assoc (take at xs) (take m (drop at xs)) (drop (at + m) old))
            ∙ ap (λ ys. ys ++ drop (at + m) old) (sym (take-add at m xs));
      }

  -- more was written over a prefix that was written before
  pub WritesPrefix_over : (old new after : List A) (n m : ℕ) (out other : List A) → WritesPrefix old new n out → WritesPrefix new after m other → n ≤ m
      → WritesPrefix old after m other
  WritesPrefix_over old new after n m out other w v l = record {
    count = v.count;
    fits = omega (arith, v.fits, WritesPrefix-length old new n out w);
    placed = v.placed ∙ ap (λ xs. other ++ xs) (ap (drop m) w.placed ∙ drop-append-drop n old out m l (sym w.count));
  }

  -- a call wrote into the rest of the destination
  pub WritesPrefix_after : (old new : List A) (n : ℕ) (out sub : List A) (m : ℕ) (more : List A) → WritesPrefix old new n out
      → WritesPrefix (take (length new - n) (drop n new)) sub m more → WritesPrefix old (put_mid n (length new - n) new sub) (n + m) (out ++ more)
  WritesPrefix_after old new n out sub m more w v =
      let rest : drop n new ≡ drop n old = ap (drop n) w.placed ∙ drop_at out (drop n old) n (sym w.count) in
      let prefix : take n new ≡ out = ap (take n) w.placed ∙ take_at out (drop n old) n (sym w.count) in
      let whole : take (length new - n) (drop n new) ≡ drop n old = take_rest new n ∙ rest in
      let part : sub ≡ more ++ drop m (drop n old) = v.placed ∙ ap (λ xs. more ++ drop m xs) whole in
      let none : drop (length new - n) (drop n new) ≡ [] = drop_all (length new - n) (drop n new) (omega (arith, length-drop n new)) in
      let room : m ≤ length old - n = omega (arith, v.fits, ap length whole, length-drop n old) in
      record {
        count = omega (arith, w.count, v.count, length-append out more);
        fits = omega (arith, w.fits, room);
        placed = rw (prefix, none, part, append-nil, drop-drop) (sym (append_assoc out more (drop (n + m) old)));
      }

  -- a call left that rest unchanged
  pub put_mid-same : (xs : List A) (n : ℕ) → put_mid n (length xs - n) xs (take (length xs - n) (drop n xs)) ≡ xs
  put_mid-same xs n = ap (λ ys. take n xs ++ ys) (take-append-drop (length xs - n) (drop n xs)) ∙ take-append-drop n xs

-- ---- of a kind
-- if the longest prefix is not the whole list, the whole is not of the kind
pub prefix_not_whole : {A : Type 0} (K : List A → Type 0) (xs : List A) (n : ℕ) → IsLongestPrefix K xs n → (n ≡ length xs → ⊥) → K xs → ⊥
prefix_not_whole K xs n f ne k = ne (omega (arith, f.within, f.longest (length xs) (omega arith) (subst K (sym (take_all (length xs) xs (omega arith))) k)))

-- ---- fitting
module _ {C A : Type 0} (source : C → List ℕ) (output : C → List A) where
  -- all of the characters fit
  pub IsLongestFittingPrefix-all : (characters : List C) (room : ℕ) → length (flat_map output characters) ≤ room
      → IsLongestFittingPrefix source output characters room (length (flat_map source characters)) (flat_map output characters)
  IsLongestFittingPrefix-all characters room h =
      let all : take (length characters) characters ≡ characters = take_all (length characters) characters (omega arith) in
      record {
        count = length characters;
        within = omega arith;
        taken = ap (λ xs. length (flat_map source xs)) (sym all);
        written = ap (flat_map output) (sym all);
        fits = h;
        longest = λ l. absurd (omega arith);
      }

  -- those before one that doesn't fit
  pub IsLongestFittingPrefix-stop : (done : List C) (c : C) (more : List C) (room : ℕ) → length (flat_map output done) ≤ room
      → room < length (flat_map output done) + length (output c)
      → IsLongestFittingPrefix source output (done ++ c ∷ more) room (length (flat_map source done)) (flat_map output done)
  IsLongestFittingPrefix-stop done c more room h l =
      let prefix : take (length done) (done ++ c ∷ more) ≡ done = take_at done (c ∷ more) (length done) refl in
      let next : take (length done + 1) (done ++ c ∷ more) ≡ done ++ c ∷ [] =
      ap (take (length done + 1)) (sym (append_assoc done (c ∷ []) more)) ∙ take_at (done ++ c ∷ []) more (length done + 1) (length_push done c) in
      let long : length (flat_map output (done ++ c ∷ [])) ≡ length (flat_map output done) + length (output c) =
      ap length (flat_map-append output done (c ∷ [])) ∙ length-append (flat_map output done) (output c ++ [])
      ∙ ap (λ xs. length (flat_map output done) + length xs) (append-nil (output c)) in
      record {
        count = length done;
        within = omega (arith, length-append done (c ∷ more));
        taken = ap (λ xs. length (flat_map source xs)) (sym prefix);
        written = ap (flat_map output) (sym prefix);
        fits = h;
        longest = λ _. subst (λ xs. room < length (flat_map output xs)) (sym next) (omega (arith, long));
      }

-- ---- joined lists
module _ {C A : Type 0} (f : C → List A) where
  pub flat_map_push : (cs : List C) (c : C) → flat_map f (cs ++ c ∷ []) ≡ flat_map f cs ++ f c
  flat_map_push cs c = flat_map-append f cs (c ∷ []) ∙ ap (λ xs. flat_map f cs ++ xs) (append-nil (f c))

  pub length-prefix : (cs : List C) (n : ℕ) → length (flat_map f (take n cs)) ≤ length (flat_map f cs)
  length-prefix cs n =
      let whole : flat_map f (take n cs) ++ flat_map f (drop n cs) ≡ flat_map f cs = sym (flat_map-append f (take n cs) (drop n cs))
      ∙ ap (flat_map f) (take-append-drop n cs) in
      omega (arith, ap length whole, length-append (flat_map f (take n cs)) (flat_map f (drop n cs)))

-- ---- fitting
module _ {C A : Type 0} (source : C → List ℕ) (output : C → List A) where
  -- characters that fit, followed by the longest fitting prefix of the rest
  pub IsLongestFittingPrefix-after : (done rest : List C) (room read : ℕ) (out : List A) → length (flat_map output done) ≤ room
      → IsLongestFittingPrefix source output rest (room - length (flat_map output done)) read out
      → IsLongestFittingPrefix source output (done ++ rest) room (length (flat_map source done) + read) (flat_map output done ++ out)
  IsLongestFittingPrefix-after done rest room read out h f =
      let prefix : take (length done + f.count) (done ++ rest) ≡ done ++ take f.count rest = take-append-add done rest f.count in
      let next : take (length done + (f.count + 1)) (done ++ rest) ≡ done ++ take (f.count + 1) rest = take-append-add done rest (f.count + 1) in
      let one_on : length done + f.count + 1 ≡ length done + (f.count + 1) = omega arith in
      let long = length-append (flat_map output done) (flat_map output (take (f.count + 1) rest)) in
      record {
        count = length done + f.count;
        within = omega (arith, f.within, length-append done rest);
        taken = ap (λ n. length (flat_map source done) + n) f.taken ∙ sym (length-append (flat_map source done) (flat_map source (take f.count rest)))
            ∙ ap length (sym (flat_map-append source done (take f.count rest))) ∙ ap (λ cs. length (flat_map source cs)) (sym prefix);
        written = ap (λ xs. flat_map output done ++ xs) f.written ∙ sym (flat_map-append output done (take f.count rest)) ∙ ap (flat_map output) (sym prefix);
        fits = omega (arith, f.fits, length-append (flat_map output done) out);
        longest = λ l.
            let less : room - length (flat_map output done) < length (flat_map output (take (f.count + 1) rest)) =
            f.longest (omega (arith, l, length-append done rest)) in
            subst (λ n. room < length (flat_map output (take n (done ++ rest)))) (sym one_on)
            (subst (λ cs. room < length (flat_map output cs)) (sym next)
            (subst (λ xs. room < length xs) (sym (flat_map-append output done (take (f.count + 1) rest))) (omega (arith, less, long))));
      }

  -- one character that fits, followed by the longest fitting prefix of the rest
  pub IsLongestFittingPrefix-cons : (c : C) (rest : List C) (room read : ℕ) (out : List A) → length (output c) ≤ room
      → IsLongestFittingPrefix source output rest (room - length (output c)) read out
      → IsLongestFittingPrefix source output (c ∷ rest) room (length (source c) + read) (output c ++ out)
  IsLongestFittingPrefix-cons c rest room read out h f =
      subst (λ xs. IsLongestFittingPrefix source output (c ∷ rest) room (length xs + read) (output c ++ out)) (append-nil (source c))
      (subst (λ xs. IsLongestFittingPrefix source output (c ∷ rest) room (length (source c ++ []) + read) (xs ++ out)) (append-nil (output c))
      (IsLongestFittingPrefix-after (c ∷ []) rest room read out (subst (λ xs. length xs ≤ room) (sym (append-nil (output c))) h)
      (subst (λ xs. IsLongestFittingPrefix source output rest (room - length xs) read out) (sym (append-nil (output c))) f)))

module _ {C D A : Type 0} (source : D → List ℕ) (output : D → List A) (v : C → D) where
  prefix_map : {B : Type 0} (f : D → List B) (n : ℕ) (cs : List C) → flat_map f (take n (map v cs)) ≡ flat_map (λ c. f (v c)) (take n cs)
  prefix_map f zero cs = refl
  prefix_map f (suc n) [] = refl
  prefix_map f (suc n) (c ∷ cs) = ap (λ xs. f (v c) ++ xs) (prefix_map f n cs)

  -- of characters seen as others
  pub IsLongestFittingPrefix-map : (cs : List C) (room read : ℕ) (out : List A)
      → IsLongestFittingPrefix (λ c. source (v c)) (λ c. output (v c)) cs room read out → IsLongestFittingPrefix source output (map v cs) room read out
  IsLongestFittingPrefix-map cs room read out f = record {
    count = f.count;
    within = omega (arith, f.within, length-map cs v);
    taken = f.taken ∙ ap length (sym (prefix_map source f.count cs));
    written = f.written ∙ sym (prefix_map output f.count cs);
    fits = f.fits;
    longest = λ l. subst (λ xs. room < length xs) (sym (prefix_map output (f.count + 1) cs)) (f.longest (omega (arith, l, length-map cs v)));
  }

-- ---- the prefix of a destination that was written
module _ {A : Type 0} (old new : List A) (n : ℕ) (out : List A) (w : WritesPrefix old new n out) where
  pub written_is : out ≡ take n new
  written_is = sym (take_at out (drop n old) n (sym w.count)) ∙ ap (take n) (sym w.placed)

  pub written_prefix : WritesPrefix old new n (take n new)
  written_prefix = subst (λ xs. WritesPrefix old new n xs) written_is w
