-- The lanes of fields: their bits, the words that they lie in, and that they stand apart.
use Rattle.std.proofs.Common.{◌≡◌, ◌≢◌, ℕ, zero, suc, ◌*◌, ◌/◌, ◌%◌, List, [], ◌∷◌, cond, eqb, get_or, length, map, replicate, refl, sym, ap, ◌∙◌, inl, inr, arith}
use Rattle.std.specs.Prelude.{All, AllPairs, option_map, slice_get, sum, unwrap_or}
use Rattle.std.specs.List.{flat_map}
use Rattle.std.proofs.lemmas.Bool.Decides.{eqb_tells}
use Rattle.std.proofs.lemmas.List.{length-map}
use Rattle.std.proofs.lemmas.List.Elements.{All-nil, All-head, All-tail, All-weaker}
use Rattle.std.proofs.lemmas.List.Folds.{sum_by-replicate}
use Rattle.std.proofs.lemmas.List.Sums.{sum_by-append}
use Rattle.rmt_bits.specs.declared.lane.Lane.{Lane}
use Rattle.rmt_bits.proofs.AllLaws.{All-left, All-right}
use Rattle.rmt_bits.proofs.PairLaws.{AllPairs-right, AllPairs-across}
use Rattle.rmt_ast.specs.declared.program.Program.{Program}
use Rattle.rmt_ast.specs.declared.program.Field.{Field}
use Rattle.rmt_ast.specs.Places.{lanes_of}
use Rattle.rmt_ast.specs.State.{width_of}
use Rattle.rmt_phv.specs.Packing.{pieces}
use Rattle.rmt_phv.specs.Places.{AreApart, KeepsApart, LiesInWord, lengths_of}

-- ---- bits

-- pieces have the bits of their field
pub pieces_bits : (w : ℕ) → sum (pieces w) ≡ w
pieces_bits w =
    let parts = sum_by-append (λ (n : ℕ). n) (replicate (w / 32) 32) (cond (eqb (w % 32) 0) [] (w % 32 ∷ [])) in
    let front : sum (replicate (w / 32) 32) ≡ w / 32 * 32 = sum_by-replicate (λ (n : ℕ). n) (w / 32) 32 in
    elim (eqb_tells (w % 32) 0) [
      | inl (is, e) ↦ let rest : sum (cond (eqb (w % 32) 0) [] (w % 32 ∷ [])) ≡ 0 = ap (λ b. sum (cond b [] (w % 32 ∷ []))) is in omega (arith, parts, front, rest, e)
      | inr (is, e) ↦ let rest : sum (cond (eqb (w % 32) 0) [] (w % 32 ∷ [])) ≡ sum (w % 32 ∷ []) = ap (λ b. sum (cond b [] (w % 32 ∷ []))) is in omega (arith, parts, front, rest)
    ]

cut_in : (places : List (List Lane)) (fs : List Field) (f : ℕ) → lengths_of places ≡ map (λ (x : Field). pieces x.width) fs
    → map (λ (l : Lane). l.len) (lanes_of places f) ≡ pieces (unwrap_or (option_map (λ (x : Field). x.width) (slice_get fs f)) 0)
cut_in [] [] f cut = refl
cut_in [] (x ∷ fs) f cut = absurd cc
cut_in (ls ∷ places) [] f cut = absurd cc
cut_in (ls ∷ places) (x ∷ fs) zero cut = let here : map (λ (l : Lane). l.len) ls ≡ pieces x.width = cc in here
cut_in (ls ∷ places) (x ∷ fs) (suc f) cut = cut_in places fs f (let rest : lengths_of places ≡ map (λ (y : Field). pieces y.width) fs = cc in rest)

module _ (p : Program) (places : List (List Lane)) (f : ℕ) (cut : lengths_of places ≡ map (λ (x : Field). pieces x.width) p.fields) where
  -- the lanes of a field are as long as its pieces and as many, and have its bits
  pub lanes_cut : map (λ (l : Lane). l.len) (lanes_of places f) ≡ pieces (width_of p f)
  lanes_cut = cut_in places p.fields f cut

  pub lanes_count : length (lanes_of places f) ≡ length (pieces (width_of p f))
  lanes_count = sym (length-map (lanes_of places f) (λ (l : Lane). l.len)) ∙ ap length lanes_cut

  pub lanes_width : sum (map (λ (l : Lane). l.len) (lanes_of places f)) ≡ width_of p f
  lanes_width = ap sum lanes_cut ∙ pieces_bits (width_of p f)

-- ---- places

lie_in : (places : List (List Lane)) (f : ℕ) → All (λ (ls : List Lane). All LiesInWord ls) places → All LiesInWord (lanes_of places f)
lie_in [] f h = All-nil LiesInWord
lie_in (ls ∷ places) zero h = All-head (λ (xs : List Lane). All LiesInWord xs) ls places h
lie_in (ls ∷ places) (suc f) h = lie_in places f (All-tail (λ (xs : List Lane). All LiesInWord xs) ls places h)

-- the lanes of a field lie in their words
pub lanes_lie : (p : Program) (places : List (List Lane)) (f : ℕ) → KeepsApart p places → All LiesInWord (lanes_of places f)
lanes_lie p places f keeps = lie_in places f keeps.within

-- what holds of all lanes holds of a field's
pub lanes_all : (P : Lane → Type 0) (places : List (List Lane)) (f : ℕ) → All P (flat_map (λ (ls : List Lane). ls) places) → All P (lanes_of places f)
lanes_all P [] f h = All-nil P
lanes_all P (ls ∷ places) zero h = All-left P ls (flat_map (λ (xs : List Lane). xs) places) h
lanes_all P (ls ∷ places) (suc f) h = lanes_all P places f (All-right P ls (flat_map (λ (xs : List Lane). xs) places) h)

-- ---- lanes apart

-- the lanes of two lists, each apart from each
abbrev pub StandApart : List Lane → List Lane → Type 0
StandApart xs ys = All (λ (a : Lane). All (AreApart a) ys) xs

apart_turned : (a b : Lane) → AreApart a b → AreApart b a
apart_turned a b (inl words) = inl (λ e. words (sym e))
apart_turned a b (inr (inl below)) = inr (inr below)
apart_turned a b (inr (inr above)) = inr (inl above)

turned : (xs ys : List Lane) → StandApart xs ys → StandApart ys xs
turned xs ys h j e below i d lt = apart_turned (get_or xs i d) (get_or ys j e) (h i d lt j e below)

-- lanes of two fields have no bit in common
pub fields_apart : (places : List (List Lane)) (f g : ℕ) → AllPairs AreApart (flat_map (λ (ls : List Lane). ls) places) → f ≢ g → StandApart (lanes_of places f) (lanes_of places g)
fields_apart [] f g apart other = All-nil (λ (a : Lane). All (AreApart a) [])
fields_apart (ls ∷ places) zero zero apart other = absurd (other refl)
fields_apart (ls ∷ places) zero (suc g) apart other =
    let rest = flat_map (λ (xs : List Lane). xs) places in
    All-weaker (λ (a : Lane). All (AreApart a) rest) (λ (a : Lane). All (AreApart a) (lanes_of places g)) (λ a h. lanes_all (AreApart a) places g h) ls
    (AllPairs-across AreApart ls rest apart)
fields_apart (ls ∷ places) (suc f) zero apart other =
    let rest = flat_map (λ (xs : List Lane). xs) places in
    lanes_all (λ (a : Lane). All (AreApart a) ls) places f (turned ls rest (AllPairs-across AreApart ls rest apart))
fields_apart (ls ∷ places) (suc f) (suc g) apart other =
    fields_apart places f g (AllPairs-right AreApart ls (flat_map (λ (xs : List Lane). xs) places) apart) (λ e. other (ap suc e))
