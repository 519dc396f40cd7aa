use Rattle.std.proofs.Common.{ℕ, ◌+◌, ◌*◌, ◌%◌, ◌^◌, ap, arith}
use Rattle.rmt_pack.proofs.TcamLaws.{piece-lt, piece-small, piece-whole, add-rest, add-word}
use Rattle.rmt_pack.proofs.tcam.Bits.add_piece.Goals as goal

pub overflow_add-self : goal.overflow_add-self
overflow_add-self c =
    let s = c.args.self.now in
    omega (arith, piece-small s.rest c.args.piece s.filled c.args.len c.requires.rest c.requires.piece c.requires.room, piece-whole c.args.piece s.filled c.args.len c.requires.piece c.requires.room)

pub returns-in_ok-push-clause-holds : goal.returns-in_ok-push-clause-holds
returns-in_ok-push-clause-holds c = λ n bits holds.
    let s = c.args.self.now in
    add-word s c.args.piece c.args.len (s.rest + c.args.piece * 2 ^ s.filled % 2 ^ 64) n bits c.push.new.self c.requires.piece c.if-self-eq40.true
    (ap (λ (x : ℕ). s.rest + x) (piece-whole c.args.piece s.filled c.args.len c.requires.piece c.requires.room)) c.in_ok-push.ensures.ok holds

pub returns-else-self-eq40-clause-holds : goal.returns-else-self-eq40-clause-holds
returns-else-self-eq40-clause-holds c = λ n bits holds.
    let s = c.args.self.now in
    add-rest s c.args.piece c.args.len (s.rest + c.args.piece * 2 ^ s.filled % 2 ^ 64) n bits c.requires.piece c.requires.room c.if-self-eq40.false
    (ap (λ (x : ℕ). s.rest + x) (piece-whole c.args.piece s.filled c.args.len c.requires.piece c.requires.room)) holds

pub returns-else-self-eq40-clause-rest : goal.returns-else-self-eq40-clause-rest
returns-else-self-eq40-clause-rest c =
    let s = c.args.self.now in
    omega (arith, piece-lt s.rest c.args.piece s.filled c.args.len c.requires.rest c.requires.piece, piece-whole c.args.piece s.filled c.args.len c.requires.piece c.requires.room)
