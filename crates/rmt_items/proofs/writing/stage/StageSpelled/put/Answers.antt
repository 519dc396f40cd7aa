use Rattle.std.proofs.Common.{List, ◌≡◌, ◌++◌, ◌∙◌, ap, subst}
use Rattle.std.specs.Prelude.{OnOk}
use Rattle.std.specs.List.{flat_map}
use Rattle.rmt_config.specs.Spelling.{two_bytes, spelled_list8, spelled_list32, spelled_unit, spelled_vliw, spelled_srow, spelled_trow}
use Rattle.rmt_items.proofs.Appending.{appended_five}
use Rattle.rmt_items.proofs.writing.stage.StageSpelled.put.Goals as goal

pub returns : goal.returns
returns c =
    let stage = c.args.self.now in
    appended_five c.put_list32-2.result c.args.out.now.items
    (two_bytes stage.start) (spelled_list8 spelled_unit stage.units) (flat_map spelled_vliw stage.code) (spelled_list32 spelled_srow stage.srows) (spelled_list32 spelled_trow stage.trows)
    c.put_two.new.out.items c.put_list8.new.out.items c.put_all.new.out.items c.put_list32.new.out.items c.put_list32-2.new.out.items
    c.in_ok-put_two.ensures.put
    (c.in_ok-put_list8.ensures.put ∙ ap (λ (us : List _). c.put_two.new.out.items ++ spelled_list8 spelled_unit us) c.as_slice.ensures)
    (c.in_ok-put_all.ensures.put ∙ ap (λ (vs : List _). c.put_list8.new.out.items ++ flat_map spelled_vliw vs) c.as_slice-2.ensures)
    (c.in_ok-put_list32.ensures.put ∙ ap (λ (rs : List _). c.put_all.new.out.items ++ spelled_list32 spelled_srow rs) c.as_slice-3.ensures)
    (subst (λ (rs : List _). OnOk c.put_list32-2.result (c.put_list32-2.new.out.items ≡ c.put_list32.new.out.items ++ spelled_list32 spelled_trow rs)) c.as_slice-4.ensures c.put_list32-2.ensures.put)
