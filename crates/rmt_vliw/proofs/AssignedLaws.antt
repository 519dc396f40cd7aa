-- What the instruction of a folded action changes: words and lanes of the fields that the action assigns alone.
use Rattle.std.proofs.Common.{◌≡◌, ◌≢◌, ◌⊎◌, ◌+◌, ◌<◌, ◌≤◌, ◌∙◌, ℕ, List, [], map, get_or, sym, ap, subst}
use Rattle.std.specs.Prelude.{All, Contains, Option, option_map, slice_get, unwrap_or}
use Rattle.std.specs.List.{flat_map}
use Rattle.std.specs.List.Sorted.{IsPermutation}
use Rattle.std.proofs.lemmas.List.Elements.{All-contains, All-contains_itself, All-map, All-nil, All-weaker, Contains-get_or}
use Rattle.std.proofs.lemmas.List.Sorted.{All-permutation}
use Rattle.rmt_bits.specs.declared.lane.Lane.{Lane}
use Rattle.rmt_bits.proofs.AllLaws.{All-flat_map, All-unmap}
use Rattle.rmt_bits.proofs.MemberLaws.{Contains-map, Contains-flat_map}
use Rattle.rmt_vliw.specs.Types.{Program, Action, Assign, Operation}
use Rattle.rmt_ast.specs.EntryLists.{params_of}
use Rattle.rmt_ast.specs.Places.{lanes_of}
use Rattle.rmt_phv.specs.Places.{written_by}
use Rattle.rmt_config.specs.Effects.{ChangesOnly}
use Rattle.rmt_vliw.specs.declared.folded.Folded.{Folded}
use Rattle.rmt_vliw.specs.Effects.{written_lanes}
use Rattle.rmt_vliw.specs.Folding.{IsFolding, dests_of}
use Rattle.rmt_vliw.specs.Operations.{given, operations_of}
use Rattle.rmt_vliw.proofs.MeaningLaws.{action_of, folded_is}
use Rattle.rmt_vliw.proofs.OperationLaws.{IsOpOf, operation_word, ops_all}
use Rattle.rmt_vliw.proofs.PieceLaws.{piece_of}
use Rattle.rmt_vliw.proofs.ValueLaws.{dests_known}

-- ---- values of some fields

-- a value is of one of the fields
abbrev pub IsAssigned : List ℕ → Assign → Type 0
IsAssigned fields v = Contains fields v.dest

module _ (places : List (List Lane)) (fields : List ℕ) where
  abbrev lanes : List Lane
  lanes = flat_map (lanes_of places) fields

  lanes_assigned : (values : List Assign) → All (IsAssigned fields) values → All (λ (v : Assign). All (Contains lanes) (lanes_of places v.dest)) values
  lanes_assigned values dests i d lt j e below =
      Contains-flat_map (lanes_of places) fields (get_or values i d).dest (get_or (lanes_of places (get_or values i d).dest) j e)
      (dests i d lt) (Contains-get_or (lanes_of places (get_or values i d).dest) j e below)

  -- what changes only bits of the values' lanes changes only bits of those of the fields
  pub changes_assigned : (values : List Assign) (ops : List Operation) → All (IsAssigned fields) values → ChangesOnly (written_lanes places values) ops → ChangesOnly lanes ops
  changes_assigned values ops dests changes words held word bit free =
      changes words held word bit (λ i d lt. All-contains (λ (l : Lane). (l.word ≢ word) ⊎ ((bit < l.low) ⊎ (l.low + l.len ≤ bit))) lanes (get_or (written_lanes places values) i d) free
      (All-flat_map (Contains lanes) (λ (v : Assign). lanes_of places v.dest) values (lanes_assigned values dests) i d lt))

  -- the operations of the values are on words of those lanes
  pub words_assigned : (params : List ℕ) (values : List Assign) (ops : List Operation) → All (IsAssigned fields) values → IsPermutation (operations_of places params values) ops → All (λ (y : Operation). Contains (map (λ (l : Lane). l.word) lanes) y.word) ops
  words_assigned params values ops dests same =
      All-weaker (IsOpOf places params values) (λ (y : Operation). Contains (map (λ (l : Lane). l.word) lanes) y.word)
      (λ y op.
      (let v = op.value in
      let none : Lane = record { word = 0; low = 0; len = 0 } in
      let lane = get_or (lanes_of places v.dest) op.place none in
      let there : Contains lanes lane =
      Contains-flat_map (lanes_of places) fields v.dest lane (All-contains (IsAssigned fields) values v dests op.among) (Contains-get_or (lanes_of places v.dest) op.place none op.inside) in
      let word : y.word ≡ lane.word =
      ap (λ (x : Operation). x.word) (op.is none) ∙ operation_word places params v.expr (piece_of (lanes_of places v.dest) op.place lane.len) lane in
      subst (Contains (map (λ (l : Lane). l.word) lanes)) (sym word) (Contains-map (λ (l : Lane). l.word) lanes lane there)))
      ops (All-permutation (IsOpOf places params values) (operations_of places params values) ops same (ops_all places params values))

-- ---- the values of a folding

-- the fields that an action of a program assigns
abbrev pub fields_assigned : Program → ℕ → List ℕ
fields_assigned p n = unwrap_or (option_map written_by (slice_get p.actions n)) []

module _ (p : Program) (n : ℕ) (folded : Folded) (folding : IsFolding p n folded) where
  -- they are of fields that the action assigns
  pub values_assigned : All (IsAssigned (fields_assigned p n)) folded.values
  values_assigned =
      let found = action_of p n folded folding in
      let a = found.0 in
      let values = (folded_is a folded found.2).1 in
      let itself = All-unmap (Contains (written_by a)) (λ (x : Assign). x.dest) a.assigns (All-contains_itself (written_by a)) in
      let known : All (Contains (written_by a)) (dests_of a.assigns) = dests_known a.assigns [] (written_by a) (All-nil (Contains (written_by a))) itself in
      let own = All-unmap (Contains (written_by a)) (λ (v : Assign). v.dest) folded.values (subst (All (Contains (written_by a))) (sym values.dests) known) in
      subst (λ (o : Option Action). All (λ (v : Assign). Contains (unwrap_or (option_map written_by o) []) v.dest) folded.values) (sym found.1) own

  pub params_same : params_of p n ≡ folded.params
  params_same =
      let found = action_of p n folded folding in
      ap (λ (o : Option Action). unwrap_or (option_map (λ (x : Action). x.params) o) []) found.1 ∙ sym (folded_is found.0 folded found.2).0

  -- and with arguments in place of parameters
  pub given_assigned : (args : List ℕ) → All (IsAssigned (fields_assigned p n)) (map (given args) folded.values)
  given_assigned args = All-map (IsAssigned (fields_assigned p n)) (given args) folded.values values_assigned
