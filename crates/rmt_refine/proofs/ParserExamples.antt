-- The program on two stages: the parser of the configuration ends as the walk does, on every frame.
use Rattle.std.proofs.Common.{◌≡◌, ◌≢◌, ℕ, zero, suc, ◌+◌, ◌*◌, ◌%◌, ◌^◌, ◌<◌, ◌≤◌, false, cond, List, [], ◌∷◌, length, replicate, refl, sym, ap, ◌∙◌, subst, ◌⊎◌, inl, inr, arith}
use Rattle.std.specs.Prelude.{nat_lt, slice_index, slice_index_or}
use Rattle.std.specs.List.{flat_map}
use Rattle.std.proofs.lemmas.Bool.{cases_eq, le-ltb}
use Rattle.std.proofs.lemmas.List.{get_or-set_other}
use Rattle.std.proofs.Math.Nat.{zero-div}
use Rattle.rmt_bits.specs.Bits.{bits_of_bytes, deposit, number_of, slice}
use Rattle.rmt_bits.specs.declared.lane.Lane.{Lane}
use Rattle.rmt_bits.proofs.BitLaws.{slice-deposit_above, slice-deposit_below, slice-deposit_same, slice-lt}
use Rattle.rmt_bits.proofs.WordLaws.{get_or-zeros, get_or-same}
use Rattle.rmt_ast.specs.Places.{lanes_of}
use Rattle.rmt_ast.specs.Walk as walks
use Rattle.rmt_config.specs.Agreement.{AgreesWith, EndsAs, HasReached, IsFree, held_in}
use Rattle.rmt_config.specs.ChipRun.{tail_bytes}
use Rattle.rmt_config.specs.Parser.{no_tail, put}
use Rattle.rmt_config.specs.Parser as parsing
use Rattle.rmt_refine.proofs.TwoStages.{its_parser, lane, places, program}
use Rattle.std.proofs.lemmas.List.Elements.{All-contains}

-- ---- the parser

abbrev vector_of : ℕ → List ℕ
vector_of x = put (put (replicate 224 0) (lane 0 1 1) 1) (lane 1 0 8) x

zero_bit : (bit : ℕ) → slice 0 bit 1 ≡ 0
zero_bit bit = ap (λ n. n % 2 ^ 1) (zero-div (2 ^ bit))

-- the byte and the valid bit, and 0 in every other word
vector_word : (x word : ℕ) → (word ≡ 0 → ⊥) → (word ≡ 1 → ⊥) → slice_index (vector_of x) word ≡ 0
vector_word x word other_0 other_1 =
    get_or-set_other (put (replicate 224 0) (lane 0 1 1) 1) 1 word _ 0 other_1 ∙ get_or-set_other (replicate 224 0) 0 word _ 0 other_0 ∙ get_or-zeros 224 word 0

abbrev IsBeside : ℕ → ℕ → Lane → Type 0
IsBeside word bit l = (l.word ≢ word) ⊎ ((bit < l.low) ⊎ (l.low + l.len ≤ bit))

vector_free : (x word bit : ℕ) → x < 2 ^ 8 → IsFree (flat_map (λ (ls : List Lane). ls) places) word bit → slice (slice_index (vector_of x) word) bit 1 ≡ 0
vector_free x word bit fits free = elim (cases_eq word 1) [
  | inl same ↦ subst (λ w. slice (slice_index (vector_of x) w) bit 1 ≡ 0) (sym same)
      (elim (All-contains (IsBeside word bit) (flat_map (λ (ls : List Lane). ls) places) (lane 1 0 8) free (4, omega arith, refl)) [
        | inl ne ↦ absurd (ne (sym same))
        | inr aside ↦ elim aside [
          | inl below ↦ absurd (omega (arith, below))
          | inr above ↦ slice-deposit_above 0 0 8 x bit 1 fits above ∙ zero_bit bit
        ]
      ])
  | inr other_1 ↦ elim (cases_eq word 0) [
    | inl same ↦ subst (λ w. slice (slice_index (vector_of x) w) bit 1 ≡ 0) (sym same)
        (elim (All-contains (IsBeside word bit) (flat_map (λ (ls : List Lane). ls) places) (lane 0 1 1) free (3, omega arith, refl)) [
          | inl ne ↦ absurd (ne (sym same))
          | inr aside ↦ elim aside [
            | inl below ↦ slice-deposit_below 0 1 1 1 bit 1 (omega arith) (omega (arith, below)) ∙ zero_bit bit
            | inr above ↦ slice-deposit_above 0 1 1 1 bit 1 (omega arith) above ∙ zero_bit bit
          ]
        ])
    | inr other_0 ↦ ap (λ w. slice w bit 1) (vector_word x word other_0 other_1) ∙ zero_bit bit
  ]
]

field_there : (x f : ℕ) → x < 2 ^ 8 → held_in (vector_of x) (lanes_of places f) ≡ slice_index (0 ∷ 0 ∷ 0 ∷ 1 ∷ x ∷ 0 ∷ []) f
field_there x zero fits = refl
field_there x (suc zero) fits = refl
field_there x (suc (suc zero)) fits = refl
field_there x (suc (suc (suc zero))) fits = refl
field_there x (suc (suc (suc (suc zero)))) fits =
    let own = slice-deposit_same 0 0 8 x fits in
    let none : slice (deposit 0 0 8 x) 0 8 + 2 ^ 8 * 0 ≡ slice (deposit 0 0 8 x) 0 8 = omega arith in
    none ∙ own
field_there x (suc (suc (suc (suc (suc zero))))) fits = refl
field_there x (suc (suc (suc (suc (suc (suc f)))))) fits = refl

-- how a frame with a first byte is parsed, and how it is walked
abbrev parsed : ℕ → parsing.Reached
parsed b = record { vector = vector_of (bits_of_bytes (b ∷ []) 0 8); tails = replicate 64 no_tail; at = 1 }

abbrev walked : ℕ → ℕ → walks.Reached
walked port b = record { state = port ∷ 0 ∷ 0 ∷ 1 ∷ slice (number_of (b ∷ [])) 0 8 ∷ 0 ∷ []; tails = [] ∷ []; at = 1 }

no_tails : (b : ℕ) (rest : List ℕ) (port n : ℕ) → tail_bytes (b ∷ rest) (slice_index_or (parsed b).tails n no_tail) ≡ slice_index_or (walked port b).tails n []
no_tails b rest port zero = refl
no_tails b rest port (suc n) = ap (tail_bytes (b ∷ rest)) (get_or-same 63 n no_tail)

reached : (b : ℕ) (rest : List ℕ) (port : ℕ) → HasReached places (b ∷ rest) (parsed b) (walked port b)
reached b rest port =
    let x = slice (number_of (b ∷ [])) 0 8 in
    let fits : x < 2 ^ 8 = slice-lt (number_of (b ∷ [])) 0 8 in
    record {
      at = refl;
      state = record { whole = refl; fields = λ f. field_there x f fits; others = λ word bit free. vector_free x word bit fits free };
      tails = no_tails b rest port;
    }

pub parser_agrees : AgreesWith its_parser places program
parser_agrees port [] bytes = refl
parser_agrees port (b ∷ rest) bytes =
    let long : nat_lt (length (b ∷ rest)) (0 + 1) ≡ false = le-ltb (length (b ∷ rest)) (0 + 1) (omega arith) in
    subst (λ q. EndsAs places (b ∷ rest) (cond q parsing.Short (parsing.Accept (parsed b))) (cond q walks.Short (walks.Accept (walked port b)))) (sym long)
    (walked port b, refl, reached b rest port)
