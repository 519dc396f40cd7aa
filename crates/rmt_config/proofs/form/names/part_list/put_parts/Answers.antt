use Rattle.std.proofs.Common.{◌≡◌, ℕ, ◌+◌, ◌<◌, List, [], ◌∷◌, ◌++◌, Bool, true, false, cond, eqb, length, get_or, drop, refl, sym, ap, ◌∙◌, append_assoc, arith}
use Rattle.std.proofs.lemmas.Bool.{eq-eqb, ne_eqb}
use Rattle.std.proofs.lemmas.List.{map_push}
use Rattle.rmt_config.specs.Rooms.{PartAt, parts_among}
use Rattle.rmt_config.specs.PartsTold.{part_at, parts_at}
use Rattle.rmt_config.specs.Types.{GateUnit, SlotUnit, Unit}
use Rattle.rmt_config.specs.declared.config.Unit.TheVariants.{Gate, Slot}
use Rattle.rmt_config.proofs.form.names.part_list.put_parts.Goals as goal
use Rattle.rmt_config.proofs.form.names.part_list.put_parts.Goals.{in-Gate, in-Slot, then-from-node+in_ok-push-in-Slot, else-from-node}
use Rattle.rmt_config.proofs.RiseLaws.{one_off}

-- the parts among units from a place on
module _ (node at : ℕ) (units : List Unit) (i first : ℕ) (item : Unit) (lt : i < length units) (is : item ≡ get_or units i item) where
  behind_gate : (g : GateUnit) → item ≡ Gate g → parts_among node at i first (drop i units) ≡ parts_among node at (i + 1) first (drop (i + 1) units)
  behind_gate g e = ap (parts_among node at i first) (one_off units i item lt ∙ ap (λ u. u ∷ drop (i + 1) units) (sym is ∙ e))

  behind_slot : (s : SlotUnit) (own : Bool) (new : List PartAt) → item ≡ Slot s → eqb s.node node ≡ own → cond own (record { stage = at; place = i; first = first; slot = s } ∷ []) [] ≡ new
      → parts_among node at i first (drop i units) ≡ new ++ parts_among node at (i + 1) (first + s.actions + 1) (drop (i + 1) units)
  behind_slot s own new e same these =
      ap (parts_among node at i first) (one_off units i item lt ∙ ap (λ u. u ∷ drop (i + 1) units) (sym is ∙ e))
      ∙ ap (λ b. cond b (record { stage = at; place = i; first = first; slot = s } ∷ []) [] ++ parts_among node at (i + 1) (first + s.actions + 1) (drop (i + 1) units)) same
      ∙ ap (λ (ps : List PartAt). ps ++ parts_among node at (i + 1) (first + s.actions + 1) (drop (i + 1) units)) these

pub loop-place-preserved : goal.loop-place-preserved
loop-place-preserved c =
    let node = c.args.node in
    let at = c.args.at in
    let units = c.args.units.now in
    let i = c.loop-place.place in
    let first = c.loop-place.first in
    let item = c.index-units-place.result in
    let lt = c.loop-place-test.true in
    let is = c.index-units-place.is in
    let before = parts_at c.loop-place.parts.items in
    let so_far = c.loop-place.invariant.so_far in
    elim c.match-unit.branch [
      | in-Gate w ↦
          record {
            few = omega (arith, w.first-is, c.loop-place.invariant.few);
            so_far = ap (λ v. parts_at v.items ++ parts_among node at (i + 1) c.match-unit.first (drop (i + 1) units)) w.parts-is
                ∙ ap (λ n. before ++ parts_among node at (i + 1) n (drop (i + 1) units)) w.first-is
                ∙ ap (λ (ps : List PartAt). before ++ ps) (sym (behind_gate node at units i first item lt is _ w.in-Gate.is)) ∙ so_far;
          }
      | in-Slot w ↦
          let s = w.in-Slot.slot in
          let next : c.match-unit.first ≡ first + s.actions + 1 = omega (arith, w.first-is, w.from-in-Slot.ensures) in
          let rest : List PartAt = parts_among node at (i + 1) (first + s.actions + 1) (drop (i + 1) units) in
          record {
            few = omega (arith, next, c.loop-place.invariant.few);
            so_far = ap (λ v. parts_at v.items ++ parts_among node at (i + 1) c.match-unit.first (drop (i + 1) units)) w.parts-is
                ∙ ap (λ n. parts_at w.if-from-node.parts.items ++ parts_among node at (i + 1) n (drop (i + 1) units)) next
                ∙ elim w.if-from-node.branch [
                  | then-from-node+in_ok-push-in-Slot v ↦
                      let made : PartAt = record { stage = at; place = i; first = first; slot = s } in
                      ap (λ x. parts_at x.items ++ rest) v.parts-is
                      ∙ ap (λ (ps : List PartAt). ps ++ rest) (ap parts_at v.in_ok-push-in-Slot.ensures.items ∙ map_push part_at c.loop-place.parts.items _)
                      ∙ append_assoc before (made ∷ []) rest
                      ∙ ap (λ (ps : List PartAt). before ++ ps) (sym (behind_slot node at units i first item lt is s true _ w.in-Slot.is (eq-eqb s.node node (sym w.from.ensures ∙ v.if-from-node.true)) refl))
                      ∙ so_far
                  | else-from-node v ↦
                      ap (λ x. parts_at x.items ++ rest) v.parts-is
                      ∙ ap (λ (ps : List PartAt). before ++ ps) (sym (behind_slot node at units i first item lt is s false [] w.in-Slot.is (ne_eqb s.node node (λ e. v.if-from-node.false (w.from.ensures ∙ e))) refl))
                      ∙ so_far
                ];
          }
    ]
