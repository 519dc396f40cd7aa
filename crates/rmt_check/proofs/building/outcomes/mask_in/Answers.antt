use Rattle.rmt_check.proofs.building.outcomes.mask_in.Goals as goal

pub returns-in-Apply : goal.returns-in-Apply
returns-in-Apply g c = rw (c.in-Apply.is, ← c.as_slice.ensures, ← c.list.ensures, ← c.as_slice-in-Apply.ensures) c.arm_mask.ensures
