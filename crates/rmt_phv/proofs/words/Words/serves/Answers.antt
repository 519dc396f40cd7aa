use Rattle.std.proofs.Common.{◌≡◌, ◌+◌, Bool, true, false, not, ◌&&◌, [], leb, refl, sym, ◌∙◌, arith}
use Rattle.std.proofs.lemmas.Bool.{le-leb}
use Rattle.rmt_bits.specs.Words.{word_size}
use Rattle.rmt_phv.specs.declared.words.Word.{Word}
use Rattle.rmt_phv.specs.Packing.{free_bit}
use Rattle.rmt_phv.proofs.WordLaws.{clash_is}
use Rattle.rmt_phv.proofs.words.Words.serves.Goals as goal

all_three : (room own clash meet : Bool) → room ≡ true → own ≡ false → meet ≡ clash → not meet ≡ ((room && not own) && not clash)
all_three room own clash meet has_room no_own is = rw (has_room, no_own, is) refl

pub returns-clause-serves : goal.returns-clause-serves
returns-clause-serves c = λ p f taken packs.
    let w = c.args.word in
    let nothing : Word = record { used = 0; writers = [] } in
    let used = packs.stands.used w nothing c.requires in
    let room : leb (free_bit taken w + c.args.len) (word_size w) ≡ true =
    le-leb (free_bit taken w + c.args.len) (word_size w) (omega (arith, used, c.if-from.false, c.from.ensures, c.from-2.ensures, c.from-3.ensures, c.word_size.ensures)) in
    let clash = clash_is p f taken c.args.own.now c.args.writers.now c.args.self.now.words w nothing c.meets.result packs c.requires c.meets.ensures in
    all_three _ _ _ c.meets.result room (packs.own_lanes w ∙ sym c.if-stands_in.ensures) clash
