use Rattle.std.proofs.Common.{◌≡◌, ℕ, ◌+◌, ◌<◌, List, [], ◌++◌, length, get_or, take, sym, ap, subst, ◌∙◌}
use Rattle.std.specs.List.{flat_map}
use Rattle.std.proofs.lemmas.List.{append-nil}
use Rattle.rmt_config.specs.LimitSteps.{Counts}
use Rattle.rmt_config.specs.Resources.{unit_sram}
use Rattle.rmt_config.specs.Types.{Unit}
use Rattle.rmt_config.proofs.LimitLemmas.{flat_more}
use Rattle.rmt_config.proofs.limits.listing.listings.Goals as goal
use Rattle.rmt_config.proofs.limits.listing.listings.Goals.{in-Gate, in-Slot}
use Rattle.rmt_config.specs.StageForm.{tcam_blocks}

-- the counts behind a unit
behind : (f : Unit → List ℕ) (units : List Unit) (i : ℕ) (item unit : Unit) (counts after : List ℕ) → i < length units → item ≡ get_or units i item → item ≡ unit
    → Counts (flat_map f (take i units) ++ f unit) counts → after ≡ counts → Counts (flat_map f (take (i + 1) units)) after
behind f units i item unit counts after lt at is had same =
    subst (λ (ns : List ℕ). Counts ns after) (ap (λ u. flat_map f (take i units) ++ f u) (sym is ∙ at) ∙ flat_more f units i item lt)
    (subst (λ (x : List ℕ). Counts (flat_map f (take i units) ++ f unit) x) (sym same) had)

-- the same counts
still : (ns counts : List ℕ) → Counts ns counts → Counts (ns ++ []) counts
still ns counts had = subst (λ (ms : List ℕ). Counts ms counts) (sym (append-nil ns)) had

pub loop-unit-preserved : goal.loop-unit-preserved
loop-unit-preserved c =
    let units = c.args.units.now in
    let i = c.loop-unit.unit-index in
    let item = c.unit-item.result in
    let lt = c.loop-unit-test.true in
    elim c.match-unit.branch [
      | in-Gate w ↦ record {
        sram = behind unit_sram units i item _ c.loop-unit.sram c.match-unit.sram lt c.unit-item.is w.in-Gate.is (still _ c.loop-unit.sram c.loop-unit.invariant.sram) w.sram-is;
        tcam = behind tcam_blocks units i item _ c.loop-unit.tcam c.match-unit.tcam lt c.unit-item.is w.in-Gate.is (still _ c.loop-unit.tcam c.loop-unit.invariant.tcam) w.tcam-is;
      }
      | in-Slot w ↦ record {
        sram = behind unit_sram units i item _ w.count_sram.new.counts c.match-unit.sram lt c.unit-item.is w.in-Slot.is (w.count_sram.ensures _ c.loop-unit.invariant.sram) w.sram-is;
        tcam = behind tcam_blocks units i item _ w.count_tcam.new.counts c.match-unit.tcam lt c.unit-item.is w.in-Slot.is (w.count_tcam.ensures _ c.loop-unit.invariant.tcam) w.tcam-is;
      }
    ]
