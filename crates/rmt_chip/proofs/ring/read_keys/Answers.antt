use Rattle.std.proofs.Common.{◌≡◌, ◌<◌, ℕ, Bool, List, get_or, length, Some, sym, subst, ap, ◌∙◌, arith}
use Rattle.std.specs.Prelude.{slice_get}
use Rattle.std.proofs.lemmas.Option.{slice_get-get_or}
use Rattle.rmt_config.specs.RunCells.{look_in}
use Rattle.rmt_chip.specs.Types.{Stage}
use Rattle.rmt_memory.specs.Memory.{StageHeld}
use Rattle.rmt_chip.specs.Looks.{LooksInto}
use Rattle.rmt_chip.specs.Pending.{HaveRoomFor}
use Rattle.rmt_chip.proofs.PassLaws.{ring_set, look_turn, look_done}
use Rattle.rmt_chip.proofs.ReadingLaws.{looks_into}
use Rattle.rmt_chip.proofs.ring.read_keys.Goals as goal

pub loop-k-preserved : goal.loop-k-preserved
loop-k-preserved c =
    let config = c.args.config.now in
    let k = c.loop-k.k in
    let m = c.index-memories-k.result in
    let inside : k < length config.stages = omega arith in
    let mine : slice_get c.args.memories.now k ≡ Some m = slice_get-get_or c.args.memories.now k m (let all = c.requires.memories.all_stages in omega arith) ∙ ap Some (sym c.index-memories-k.is) in
    record {
      ring = ring_set config.stages c.args.newest c.place_behind-at.result c.loop-k.places c.read_keys.new.place
          (subst (λ (ss : List Stage). HaveRoomFor ss c.read_keys.new.place.pending.items) c.as_slice-stages.ensures c.read_keys.ensures.room) c.loop-k.invariant.ring;
      holds = λ cells item laid seed looks held.
          let place = get_or c.loop-k.places c.place_behind-at.result c.index-places-at.result in
          look_turn config item c.args.newest k c.loop-k.places c.requires.fits c.loop-k.invariant.ring c.place_behind-at.result c.index-places-at.result c.read_keys.new.place (look_in config place.version cells) inside c.place_behind-at.ensures.place
          (λ stage found.
          let lies : StageHeld cells k stage c.deref.result.now = subst (StageHeld cells k stage) (sym c.deref.ensures.value) (laid k stage m found mine) in
          c.read_keys.ensures.looked stage (ap (λ (ss : List Stage). slice_get ss k) c.as_slice-stages.ensures ∙ found) cells (look_in config place.version cells) lies seed (subst (λ (b : Bool). LooksInto b place.version cells stage (look_in config place.version cells) k) (sym c.is_some.ensures) (looks_into config place.version cells k stage found)))
          (λ x there version. looks k x inside there ∙ ap (λ (v : ℕ). look_in config v cells k) (sym version))
          (c.loop-k.invariant.holds cells item laid seed looks held);
    }

pub returns-clause-holds : goal.returns-clause-holds
returns-clause-holds c = λ cells item laid seed looks held.
    look_done c.args.config.now item c.args.newest c.loop-k.k c.loop-k.places c.requires.fits c.loop-k.invariant.ring (omega arith) (c.loop-k.invariant.holds cells item laid seed looks held)
