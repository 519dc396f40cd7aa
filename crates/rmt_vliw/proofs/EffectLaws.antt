-- What an instruction does to words.
use Rattle.std.proofs.Common.{◌≡◌, ◌≢◌, ℕ, suc, ◌+◌, ◌^◌, ◌<◌, ◌≤◌, ◌⊎◌, List, [], ◌∷◌, get_or, length, Option, Some, None, refl, sym, ap, ◌∙◌, subst, inl, inr, arith}
use Rattle.std.specs.Prelude.{◌==◌, All, Contains, slice_index, option_map, unwrap_or}
use Rattle.std.specs.List.{AllZip}
use Rattle.std.proofs.lemmas.Bool.{cases_eq, eqb-true}
use Rattle.std.proofs.lemmas.List.Elements.{All-nil, All-cons, All-contains}
use Rattle.rmt_bits.proofs.AllLaws.{All-find, All-parts}
use Rattle.rmt_bits.proofs.BitLaws.{slice-deposit_same, slice-deposit_above, slice-deposit_below, slice-whole}
use Rattle.rmt_bits.specs.Bits.{slice, deposit}
use Rattle.rmt_bits.specs.declared.lane.Lane.{Lane}
use Rattle.rmt_vliw.specs.Types.{Program, Assign, Operation}
use Rattle.rmt_ast.specs.State.{IsState, width_of}
use Rattle.rmt_ast.specs.Actions.{value_of}
use Rattle.rmt_ast.specs.Places.{lanes_of}
use Rattle.rmt_ast.specs.WellFormed.{Fits}
use Rattle.rmt_ast.proofs.StateLaws.{value_fits}
use Rattle.rmt_phv.specs.Places.{KeepsApart}
use Rattle.rmt_config.specs.Life.{Words, lane_of, source_of, computed, written, op_on}
use Rattle.rmt_vliw.specs.Folding.{all_set}
use Rattle.rmt_vliw.specs.Operations.{operations_of, IsInstruction}
use Rattle.rmt_vliw.specs.Effects.{written_lanes}
use Rattle.rmt_config.specs.Effects.{held_by, Hold, words_after, HasArguments, ChangesOnly}
use Rattle.rmt_vliw.proofs.PieceLaws.{begins, piece_of, held_from, operation_piece, operation_fits}
use Rattle.rmt_vliw.proofs.ValueLaws.{AreFolded, IsValue, set_values, set_others}
use Rattle.rmt_vliw.proofs.OperationLaws.{op_at, IsOpOf, sorted_all, op_on-piece, operation_word, written-operation}
use Rattle.rmt_phv.proofs.LaneLaws.{fields_apart, lanes_width}
use Rattle.rmt_bits.proofs.ListLaws.{find-passes}
use Rattle.rmt_config.proofs.HeldLaws.{held_same}

-- a field has a value or none
value_or_none : (values : List Assign) (f : ℕ) → ((v : Assign) × (Contains values v) × (v.dest ≡ f)) ⊎ All (λ (v : Assign). f ≢ v.dest) values
value_or_none [] f = inr (All-nil (λ (v : Assign). f ≢ v.dest))
value_or_none (v ∷ vs) f =
    elim (cases_eq v.dest f) [
      | inl e ↦ inl (v, (0, omega arith, refl), e)
      | inr ne ↦ elim (value_or_none vs f) [
        | inl h ↦ inl (h.0, (suc h.1.0, (let lt = h.1.1 in omega (arith, lt)), h.1.2), h.2)
        | inr none ↦ inr (All-cons (λ (w : Assign). f ≢ w.dest) v vs (λ e. ne (sym e)) none)
      ]
    ]

module _ (p : Program) (places : List (List Lane)) (params : List ℕ) (values : List Assign) (keeps : KeepsApart p places) (folded : AreFolded p places params values)
    (ops : List Operation) (sorted : IsInstruction (operations_of places params values) ops) (words : Words) (held : ℕ) where
  -- ---- bits that stay

  -- bits of a word that lie in no lane of a value
  abbrev LieBeside : ℕ → ℕ → ℕ → Type 0
  LieBeside word at size = (v : Assign) (k : ℕ) (d : Lane) → Contains values v → k < length (lanes_of places v.dest) → (get_or (lanes_of places v.dest) k d).word ≡ word
      → (at + size ≤ (get_or (lanes_of places v.dest) k d).low) ⊎ ((get_or (lanes_of places v.dest) k d).low + (get_or (lanes_of places v.dest) k d).len ≤ at)

  written_beside : (word at size : ℕ) (y : Operation) → IsOpOf places params values y → y.word ≡ word → LieBeside word at size
      → slice (written words held y) at size ≡ slice (words word) at size
  written_beside word at size y op is beside =
      let v = op.value in
      let d : Lane = record { word = 0; low = 0; len = 0 } in
      let lanes = lanes_of places v.dest in
      let lane = get_or lanes op.place d in
      let piece = piece_of lanes op.place lane.len in
      let o = op_at places params v op.place d in
      let x = computed o.kind lane.len (source_of words held lane.len o.left) (source_of words held lane.len o.right) in
      let small : x < 2 ^ lane.len = operation_fits places params words held v.expr piece lane in
      let at_word : lane.word ≡ word = sym (operation_word places params v.expr piece lane) ∙ sym (ap (λ (z : Operation). z.word) (op.is d)) ∙ is in
      let put : written words held y ≡ deposit (words word) lane.low lane.len x = ap (written words held) (op.is d) ∙ written-operation places params words held v.expr piece lane ∙ ap (λ w. deposit (words w) lane.low lane.len x) at_word in
      ap (λ n. slice n at size) put
      ∙ elim (beside v op.place d op.among op.inside at_word) [
        | inl below ↦ slice-deposit_below (words word) lane.low lane.len x at size small below
        | inr above ↦ slice-deposit_above (words word) lane.low lane.len x at size small above
      ]

  found_beside : (word at size : ℕ) (o : Option Operation) → op_on word ops ≡ o → LieBeside word at size
      → slice (unwrap_or (option_map (written words held) o) (words word)) at size ≡ slice (words word) at size
  found_beside word at size None is beside = refl
  found_beside word at size (Some y) is beside =
      written_beside word at size y
      (All-find (IsOpOf places params values) (λ (x : Operation). x.word == word) ops y (sorted_all p places params values keeps folded ops sorted) is)
      (eqb-true y.word word (find-passes (λ (x : Operation). x.word == word) ops y is)) beside

  pub stays : (word at size : ℕ) → LieBeside word at size
      → slice (words_after ops held words word) at size ≡ slice (words word) at size
  stays word at size beside = found_beside word at size (op_on word ops) refl beside

  -- lanes of a field without a value
  unwritten : (f : ℕ) → All (λ (v : Assign). f ≢ v.dest) values → held_by (words_after ops held words) (lanes_of places f) ≡ held_by words (lanes_of places f)
  unwritten f none =
      held_same (words_after ops held words) words (lanes_of places f)
      (λ j e below.
      (let lane = get_or (lanes_of places f) j e in
      stays lane.word lane.low lane.len
      (λ v k d there lt same.
      elim (fields_apart places f v.dest keeps.no_overlap (All-contains (λ (w : Assign). f ≢ w.dest) values v none there) j e below k d lt) [
        | inl differ ↦ absurd (differ (sym same))
        | inr (inl low) ↦ inl low
        | inr (inr high) ↦ inr high
      ])))

  -- ---- bits that are written

  module _ (args s : List ℕ) (state : IsState p s) (taken : AllZip Fits params args) (has : HasArguments params args held) (hold : Hold places words s) where
    written_lane : (v : Assign) (k : ℕ) (d : Lane) → Contains values v → k < length (lanes_of places v.dest)
        → lane_of (words_after ops held words) (get_or (lanes_of places v.dest) k d) ≡ slice (value_of (width_of p v.dest) v.expr s args) (begins (lanes_of places v.dest) k) (get_or (lanes_of places v.dest) k d).len
    written_lane v k d there lt =
        let lanes = lanes_of places v.dest in
        let lane = get_or lanes k d in
        let piece = piece_of lanes k lane.len in
        let o = op_at places params v k d in
        let x = computed o.kind lane.len (source_of words held lane.len o.left) (source_of words held lane.len o.right) in
        let good : IsValue p params v = All-contains (IsValue p params) values v folded.each there in
        let on = op_on-piece p places params values keeps folded ops sorted v k d there lt in
        let after : words_after ops held words lane.word ≡ deposit (words lane.word) lane.low lane.len x =
        ap (λ (q : Option Operation). unwrap_or (option_map (written words held) q) (words lane.word)) on ∙ written-operation places params words held v.expr piece lane in
        ap (λ n. slice n lane.low lane.len) after
        ∙ slice-deposit_same (words lane.word) lane.low lane.len x (operation_fits places params words held v.expr piece lane)
        ∙ operation_piece p places params args s words held keeps state taken has hold v.dest k d lane lt v.expr good.expr

    written_field : (v : Assign) → Contains values v → held_by (words_after ops held words) (lanes_of places v.dest) ≡ slice_index (all_set p args s values) v.dest
    written_field v there =
        let lanes = lanes_of places v.dest in
        let x = value_of (width_of p v.dest) v.expr s args in
        let good : IsValue p params v = All-contains (IsValue p params) values v folded.each there in
        let bits = lanes_width p places v.dest keeps.cut in
        let inside : v.dest < length s = (let within = good.is_field in let long = state.one_each in omega (arith, within, long)) in
        held_from (words_after ops held words) x 0 lanes
        (λ k d lt. (let none : begins lanes k ≡ 0 + begins lanes k = omega arith in written_lane v k d there lt ∙ ap (λ n. slice x n (get_or lanes k d).len) none))
        ∙ ap (slice x 0) bits
        ∙ slice-whole x (width_of p v.dest) (value_fits p params args s taken state (width_of p v.dest) v.expr good.expr)
        ∙ sym (set_values p args s values v folded.once there inside)

    -- the lanes hold the state with all values set
    pub holds_after : Hold places (words_after ops held words) (all_set p args s values)
    holds_after f =
        elim (value_or_none values f) [
          | inl h ↦ subst (λ g. held_by (words_after ops held words) (lanes_of places g) ≡ slice_index (all_set p args s values) g) h.2 (written_field h.0 h.1)
          | inr none ↦ unwritten f none ∙ hold f ∙ sym (set_others p args s values f none)
        ]

-- only the lanes of the values change
pub changes_only : (p : Program) (places : List (List Lane)) (params : List ℕ) (values : List Assign) → KeepsApart p places → AreFolded p places params values
    → (ops : List Operation) → IsInstruction (operations_of places params values) ops → ChangesOnly (written_lanes places values) ops
changes_only p places params values keeps folded ops sorted words held word bit free =
    stays p places params values keeps folded ops sorted words held word bit 1
    (λ v k d there lt same.
    (let each = All-parts (λ (l : Lane). (l.word ≢ word) ⊎ ((bit < l.low) ⊎ (l.low + l.len ≤ bit))) (λ (w : Assign). lanes_of places w.dest) values free in
    elim (All-contains (λ (w : Assign). All (λ (l : Lane). (l.word ≢ word) ⊎ ((bit < l.low) ⊎ (l.low + l.len ≤ bit))) (lanes_of places w.dest)) values v each there k d lt) [
      | inl differ ↦ absurd (differ same)
      | inr (inl below) ↦ inl (omega (arith, below))
      | inr (inr above) ↦ inr above
    ]))
