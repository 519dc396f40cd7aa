-- Instructions at their places, taken a unit at a time.
use Rattle.std.proofs.Common.{◌≡◌, ℕ, zero, suc, ◌+◌, ◌<◌, ◌≤◌, Bool, true, false, ◌&&◌, List, [], ◌∷◌, ◌++◌, length, get_or, take, drop, refl, sym, ap, ◌∙◌, arith, add-one}
use Rattle.std.specs.Prelude.{replicate}
use Rattle.std.specs.List.{list_all}
use Rattle.std.proofs.Math.Bool.{and_assoc, and-true}
use Rattle.std.proofs.Math.Seq.{drop-cons}
use Rattle.rmt_config.specs.Types.{Unit, Vliw}
use Rattle.rmt_config.specs.declared.form.code.InstructionRole.{InstructionRole}
use Rattle.rmt_config.specs.CodeForm.{unit_places, places_of, vliw_is_formed, code_is_formed}
use Rattle.rmt_bits.proofs.TestLaws.{and_false_right}

-- the same place for all but the last of some instructions
pub code_before_last : (own default : InstructionRole) (n : ℕ) (code : List Vliw) (v : Vliw) → length code ≡ n + 1 → v ≡ get_or code n v
    → code_is_formed (replicate n own ++ default ∷ []) code ≡ (list_all (vliw_is_formed own) (take n code) && vliw_is_formed default v)
code_before_last own default n [] v len e = absurd (omega (arith, len))
code_before_last own default zero (w ∷ []) v len e = and-true (vliw_is_formed default w) ∙ ap (vliw_is_formed default) (sym e)
code_before_last own default zero (w ∷ x ∷ code) v len e = absurd (omega (arith, len))
code_before_last own default (suc n) (w ∷ code) v len e =
    ap (λ b. vliw_is_formed own w && b) (code_before_last own default n code v (omega (arith, len)) e)
    ∙ sym (and_assoc (vliw_is_formed own w) (list_all (vliw_is_formed own) (take n code)) (vliw_is_formed default v))

pub code_breaks_early : (own default : InstructionRole) (n : ℕ) (code : List Vliw) → list_all (vliw_is_formed own) (take n code) ≡ false
    → code_is_formed (replicate n own ++ default ∷ []) code ≡ false
code_breaks_early own default zero code e = absurd cc
code_breaks_early own default (suc n) [] e = refl
code_breaks_early own default (suc n) (v ∷ code) e = breaks (vliw_is_formed own v) (code_breaks_early own default n code) e
  where
    breaks : (b : Bool) → (list_all (vliw_is_formed own) (take n code) ≡ false → code_is_formed (replicate n own ++ default ∷ []) code ≡ false)
        → (b && list_all (vliw_is_formed own) (take n code)) ≡ false → (b && code_is_formed (replicate n own ++ default ∷ []) code) ≡ false
    breaks true later e = later e
    breaks false later e = refl

-- instructions for some places and then for others
code_append : (ps qs : List InstructionRole) (code : List Vliw) → length ps ≤ length code
    → code_is_formed (ps ++ qs) code ≡ (code_is_formed ps (take (length ps) code) && code_is_formed qs (drop (length ps) code))
code_append [] qs code enough = refl
code_append (p ∷ ps) qs [] enough = absurd (omega (arith, enough))
code_append (p ∷ ps) qs (v ∷ code) enough =
    ap (λ b. vliw_is_formed p v && b) (code_append ps qs code (omega (arith, enough)))
    ∙ sym (and_assoc (vliw_is_formed p v) (code_is_formed ps (take (length ps) code)) (code_is_formed qs (drop (length ps) code)))

-- fewer instructions than places
code_short : (ps qs : List InstructionRole) (code : List Vliw) → length code < length ps → code_is_formed (ps ++ qs) code ≡ false
code_short [] qs code few = absurd (omega (arith, few))
code_short (p ∷ ps) qs [] few = refl
code_short (p ∷ ps) qs (v ∷ code) few = and_false_right (vliw_is_formed p v) (code_is_formed (ps ++ qs) code) (code_short ps qs code (omega (arith, few)))

module _ (units : List Unit) (i : ℕ) (u : Unit) (code : List Vliw) (inside : i < length units) (here : u ≡ get_or units i u) where
  split : drop i units ≡ u ∷ drop (i + 1) units
  split = drop-cons units i u inside ∙ ap (λ (v : Unit). v ∷ drop (suc i) units) (sym here) ∙ ap (λ (k : ℕ). u ∷ drop k units) (sym (add-one i))

  pub code_ends_short : (n : ℕ) → n ≡ length (unit_places u) → length code < n → false ≡ code_is_formed (places_of (drop i units)) code
  code_ends_short n many few =
      sym (ap (λ us. code_is_formed (places_of us) code) split ∙ code_short (unit_places u) (places_of (drop (i + 1) units)) code (omega (arith, many, few)))

  -- a unit's instructions stand in front, and those of the units from the next one on behind them
  module _ (n : ℕ) (own behind : List Vliw) (many : n ≡ length (unit_places u)) (enough : n ≤ length code) (front : own ≡ take n code) (back : behind ≡ drop n code) where
    parts : code_is_formed (places_of (drop i units)) code ≡ (code_is_formed (unit_places u) own && code_is_formed (places_of (drop (i + 1) units)) behind)
    parts =
        ap (λ us. code_is_formed (places_of us) code) split
        ∙ rw (front, back, many) (code_append (unit_places u) (places_of (drop (i + 1) units)) code (omega (arith, many, enough)))

    pub code_next : true ≡ code_is_formed (unit_places u) own → code_is_formed (places_of (drop (i + 1) units)) behind ≡ code_is_formed (places_of (drop i units)) code
    code_next fits = sym (parts ∙ ap (λ b. b && code_is_formed (places_of (drop (i + 1) units)) behind) (sym fits))

    pub code_breaks : false ≡ code_is_formed (unit_places u) own → false ≡ code_is_formed (places_of (drop i units)) code
    code_breaks breaks = sym (parts ∙ ap (λ b. b && code_is_formed (places_of (drop (i + 1) units)) behind) (sym breaks))
