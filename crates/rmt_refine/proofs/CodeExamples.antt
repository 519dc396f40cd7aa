-- The program on two stages: the instructions of the configuration do what its actions say.
use Rattle.rmt_refine.proofs.PlacesExamples.{places_apart}
use Rattle.std.proofs.Common.{◌≡◌, ◌≢◌, ℕ, zero, suc, ◌+◌, ◌*◌, ◌^◌, ◌<◌, ◌≤◌, true, false, cond, List, [], ◌∷◌, Some, None, length, refl, sym, ap, ◌∙◌, subst, ◌⊎◌, inl, inr, arith}
use Rattle.std.specs.Prelude.{Contains, option_map, slice_get, slice_index, slice_set, unwrap_or}
use Rattle.std.proofs.lemmas.Bool.{cases_eq, eq-eqb}
use Rattle.std.proofs.lemmas.List.{get_or-set_other, get_or-set_same}
use Rattle.std.proofs.lemmas.List.Elements.{All-cons, All-contains_itself, All-head, All-nil, All-weaker}
use Rattle.std.proofs.lemmas.Option.{none-some, same_Some}
use Rattle.rmt_bits.specs.Bits.{deposit, slice}
use Rattle.rmt_bits.specs.declared.lane.Lane.{Lane}
use Rattle.rmt_bits.proofs.BitLaws.{slice-deposit_above, slice-deposit_below, slice-deposit_same, slice-lt}
use Rattle.rmt_refine.specs.Types.{Table, Stage, SlotUnit, Operation, Source}
use Rattle.rmt_ast.specs.Control.{act_of}
use Rattle.rmt_ast.specs.Places.{lanes_of}
use Rattle.rmt_ast.specs.State.{IsState}
use Rattle.rmt_config.specs.Instructions.{first_code}
use Rattle.rmt_config.specs.declared.config.Source.TheVariants.{Word, Held, Constant}
use Rattle.rmt_config.specs.Life.{Words, code_at, lane_of, source_of, written}
use Rattle.rmt_refine.specs.View.{slot_of}
use Rattle.rmt_refine.specs.Code.{CodeCarried, DoesAction, DoesDefault, TableCode, WritesWordsOf, assigned_lanes}
use Rattle.rmt_config.specs.Effects.{held_by, Hold, words_after, ChangesOnly}
use Rattle.rmt_refine.specs.Units.{table_at}
use Rattle.rmt_refine.proofs.LaneLaws.{fields_apart, lane_stays}
use Rattle.rmt_phv.specs.Places.{AreApart}
use Rattle.rmt_config.proofs.HeldLaws.{SameIn, held_same}
use Rattle.rmt_refine.proofs.StageLaws.{eqb_false}
use Rattle.rmt_refine.proofs.TwoStages.{back, config, copy, first_stage, from_x, keyless_unit, lane, note, number_at, places, ports, ports_unit, program, second_stage, send, send_zero, to_x}

-- ---- instructions

module _ (l : Lane) (x : Source) (fits : (words : Words) (held : ℕ) → source_of words held l.len x < 2 ^ l.len) where
  on_word : (words : Words) (held : ℕ) → words_after (copy l x ∷ []) held words l.word ≡ deposit (words l.word) l.low l.len (source_of words held l.len x)
  on_word words held = ap (λ b. unwrap_or (option_map (written words held) (cond b (Some (copy l x)) None)) (words l.word)) (eq-eqb l.word l.word refl)

  off_word : (words : Words) (held word : ℕ) → (l.word ≡ word → ⊥) → words_after (copy l x ∷ []) held words word ≡ words word
  off_word words held word ne = ap (λ b. unwrap_or (option_map (written words held) (cond b (Some (copy l x)) None)) (words word)) (eqb_false l.word word ne)

  bit_stays : (words : Words) (held bit : ℕ) → (bit < l.low) ⊎ (l.low + l.len ≤ bit) → slice (words_after (copy l x ∷ []) held words l.word) bit 1 ≡ slice (words l.word) bit 1
  bit_stays words held bit aside =
      ap (λ w. slice w bit 1) (on_word words held)
      ∙ elim aside [
        | inl below ↦ slice-deposit_below (words l.word) l.low l.len (source_of words held l.len x) bit 1 (fits words held) (omega (arith, below))
        | inr above ↦ slice-deposit_above (words l.word) l.low l.len (source_of words held l.len x) bit 1 (fits words held) above
      ]

  copies_only : ChangesOnly (l ∷ []) (copy l x ∷ [])
  copies_only words held word bit free = elim (cases_eq l.word word) [
    | inr ne ↦ ap (λ w. slice w bit 1) (off_word words held word ne)
    | inl same ↦ elim (All-head (λ (y : Lane). (y.word ≢ word) ⊎ ((bit < y.low) ⊎ (y.low + y.len ≤ bit))) l [] free) [
      | inl ne ↦ absurd (ne same)
      | inr aside ↦ subst (λ w. slice (words_after (copy l x ∷ []) held words w) bit 1 ≡ slice (words w) bit 1) same (bit_stays words held bit aside)
    ]
  ]

  -- the field of that lane has the value, and every other field stays
  copies : (f : ℕ) (s : List ℕ) (words : Words) (held : ℕ) → lanes_of places f ≡ l ∷ [] → f < length s → Hold places words s
      → Hold places (words_after (copy l x ∷ []) held words) (slice_set s f (source_of words held l.len x))
  copies f s words held at within hold g = elim (cases_eq g f) [
    | inl same ↦ subst (λ h. held_by after (lanes_of places h) ≡ slice_index (slice_set s f value) h) (sym same) own
    | inr ne ↦
        held_same after words (lanes_of places g)
        (All-weaker (Contains (lanes_of places g)) (SameIn after words)
        (λ lane there. lane_stays lane (l ∷ []) (copy l x ∷ []) held words
        (All-cons (AreApart lane) l [] (fields_apart places g f lane l places_apart.no_overlap ne there (subst (λ ls. Contains ls l) (sym at) (0, omega arith, refl)))
        (All-nil (AreApart lane))) copies_only) (lanes_of places g) (All-contains_itself (lanes_of places g)))
        ∙ hold g ∙ sym (get_or-set_other s f g value 0 ne)
  ]
    where
      value : ℕ
      value = source_of words held l.len x

      after : Words
      after = words_after (copy l x ∷ []) held words

      one : slice (after l.word) l.low l.len ≡ value
      one = ap (λ w. slice w l.low l.len) (on_word words held) ∙ slice-deposit_same (words l.word) l.low l.len value (fits words held)

      own : held_by after (lanes_of places f) ≡ slice_index (slice_set s f value) f
      own =
          let none : slice (after l.word) l.low l.len + 2 ^ l.len * 0 ≡ slice (after l.word) l.low l.len = omega arith in
          ap (held_by after) at ∙ none ∙ one ∙ sym (get_or-set_same s f value 0 within)

-- a field of one lane holds what the lane does
lane_holds : (words : Words) (l : Lane) (n : ℕ) → held_by words (l ∷ []) ≡ n → lane_of words l ≡ n
lane_holds words l n e = let none : lane_of words l ≡ lane_of words l + 2 ^ l.len * 0 = omega arith in none ∙ e

within_fields : (s : List ℕ) (f : ℕ) → IsState program s → f < 6 → f < length s
within_fields s f state lt = let long = state.one_each in omega (arith, long, lt)

abbrev own_words : List ℕ → Operation → Type 0
own_words ws op = Contains ws op.word

pub goes : DoesAction program places 0 send
goes = record {
  acts = λ s args words held state fit has hold.
      subst (λ v. Hold places (words_after send held words) (slice_set s 1 v)) (has 0 9 refl)
      (copies (lane 129 0 9) (Held 0) (λ w h. slice-lt h 0 9) 1 s words held refl (within_fields s 1 state (omega arith)) hold);
  others = copies_only (lane 129 0 9) (Held 0) (λ w h. slice-lt h 0 9);
  words = All-cons (own_words (129 ∷ [])) _ [] (0, omega arith, refl) (All-nil (own_words (129 ∷ [])));
}

goes_zero : DoesDefault program places 0 (0 ∷ []) send_zero
goes_zero = record {
  acts = λ s words held state hold. copies (lane 129 0 9) (Constant 0) (λ w h. omega arith) 1 s words held refl (within_fields s 1 state (omega arith)) hold;
  others = copies_only (lane 129 0 9) (Constant 0) (λ w h. omega arith);
  words = All-cons (own_words (129 ∷ [])) _ [] (0, omega arith, refl) (All-nil (own_words (129 ∷ [])));
}

-- a default that copies field g, which is one word, to field f
copies_field : (action f g to from : ℕ) → f < 6 → lanes_of places f ≡ lane to 0 8 ∷ [] → lanes_of places g ≡ lane from 0 8 ∷ [] → assigned_lanes program places action ≡ lane to 0 8 ∷ []
    → ((s : List ℕ) → act_of program action [] s ≡ slice_set s f (slice_index s g)) → DoesDefault program places action [] (copy (lane to 0 8) (Word from 0) ∷ [])
copies_field action f g to from lt at_f at_g assigned acts =
    let l = lane to 0 8 in
    let ops : List Operation = copy l (Word from 0) ∷ [] in
    let fits = λ (words : Words) (held : ℕ). slice-lt (words from) 0 8 in
    record {
      acts = λ s words held state hold.
          subst (Hold places (words_after ops held words)) (sym (acts s))
          (subst (λ v. Hold places (words_after ops held words) (slice_set s f v))
          (lane_holds words (lane from 0 8) (slice_index s g) (subst (λ ls. held_by words ls ≡ slice_index s g) at_g (hold g)))
          (copies l (Word from 0) fits f s words held at_f (within_fields s f state lt) hold));
      others = subst (λ ls. ChangesOnly ls ops) (sym assigned) (copies_only l (Word from 0) fits);
      words = subst (λ ls. WritesWordsOf ls ops) (sym assigned) (All-cons (own_words (to ∷ [])) _ [] (0, omega arith, refl) (All-nil (own_words (to ∷ []))));
    }

notes : DoesDefault program places 1 [] to_x
notes = copies_field 1 5 4 2 1 (omega arith) refl refl refl (λ s. refl)

puts_back : DoesDefault program places 2 [] from_x
puts_back = copies_field 2 4 5 1 2 (omega arith) refl refl refl (λ s. refl)

-- the one action of a list
one_action : (ops : List Operation) (i a : ℕ) (code : ℕ → List Operation) → code 0 ≡ ops → DoesAction program places 0 ops → slice_get (0 ∷ []) i ≡ Some a
    → DoesAction program places a (code i)
one_action ops zero a code is does e = subst (λ b. DoesAction program places b (code 0)) (same_Some 0 a e) (subst (DoesAction program places 0) (sym is) does)
one_action ops (suc i) a code is does e = absurd (none-some a e)

abbrev CodeAt : Stage → ℕ → Table → Type 0
CodeAt stage place t = TableCode program places t (first_code stage place) stage

note_code : CodeAt first_stage 0 note
note_code = record { actions = λ i a e. absurd (none-some a e); default = notes }

first_code_of_ports : CodeAt first_stage 1 ports
first_code_of_ports = record { actions = λ i a e. one_action send i a (λ j. code_at first_stage (1 + j)) refl goes e; default = goes_zero }

second_code_of_ports : CodeAt second_stage 0 ports
second_code_of_ports = record { actions = λ i a e. one_action send i a (λ j. code_at second_stage (0 + j)) refl goes e; default = goes_zero }

back_code : CodeAt second_stage 1 back
back_code = record { actions = λ i a e. absurd (none-some a e); default = puts_back }

-- the code of the node whose unit stands at a place of a stage
of_node : (stage : Stage) (place own n : ℕ) (t u : Table) (slot unit : SlotUnit) → unit.node ≡ own → table_at program own ≡ Some t → Some unit ≡ Some slot → slot.node ≡ n
    → table_at program n ≡ Some u → CodeAt stage place t → CodeAt stage place u
of_node stage place own n t u slot unit owns own_table at is table code =
    let n_is : own ≡ n = sym owns ∙ ap (λ (x : SlotUnit). x.node) (same_Some unit slot at) ∙ is in
    subst (CodeAt stage place) (same_Some t u (sym own_table ∙ ap (table_at program) n_is ∙ table)) code

code_there : (k place n : ℕ) (t : Table) (stage : Stage) (slot : SlotUnit) → table_at program n ≡ Some t → slice_get config.stages k ≡ Some stage → slot_of stage place ≡ Some slot
    → slot.node ≡ n → CodeAt stage place t
code_there zero place n t stage slot table at there is =
    let P : Stage → Type 0 = λ x. slot_of x place ≡ Some slot → CodeAt x place t in
    subst P (same_Some first_stage stage at) (in_first place) there
  where
    in_first : (i : ℕ) → slot_of first_stage i ≡ Some slot → CodeAt first_stage i t
    in_first zero e = of_node first_stage 0 0 n note t slot (keyless_unit 0) refl refl e is table note_code
    in_first (suc zero) e = of_node first_stage 1 1 n ports t slot (ports_unit false (number_at 0 1 ∷ number_at 1 2 ∷ [])) refl refl e is table first_code_of_ports
    in_first (suc (suc i)) e = absurd (none-some slot e)
code_there (suc zero) place n t stage slot table at there is =
    let P : Stage → Type 0 = λ x. slot_of x place ≡ Some slot → CodeAt x place t in
    subst P (same_Some second_stage stage at) (in_second place) there
  where
    in_second : (i : ℕ) → slot_of second_stage i ≡ Some slot → CodeAt second_stage i t
    in_second zero e = of_node second_stage 0 1 n ports t slot (ports_unit true (number_at 0 0 ∷ [])) refl refl e is table second_code_of_ports
    in_second (suc zero) e = of_node second_stage 1 2 n back t slot (keyless_unit 2) refl refl e is table back_code
    in_second (suc (suc i)) e = absurd (none-some slot e)
code_there (suc (suc k)) place n t stage slot table at there is = absurd (none-some stage at)

pub code_carried : CodeCarried program places config
code_carried n k place t stage slot table at there is = code_there k place n t stage slot table at there is
