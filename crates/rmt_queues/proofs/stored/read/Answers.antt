use Rattle.std.proofs.Common.{◌≡◌, ◌+◌, ◌≤◌, length, take, drop, ◌∙◌, subst, arith}
use Rattle.std.proofs.lemmas.List.{length-take, take_all, take_at}
use Rattle.std.specs.Prelude.{Contains}
use Rattle.rmt_cells.specs.declared.cells.Chain.{Chain}
use Rattle.rmt_queues.proofs.stored.read.Goals as goal

pub returns-in-Some-clause-bytes : goal.returns-in-Some-clause-bytes
returns-in-Some-clause-bytes c = λ held chain bytes stands there is len.
    let (held', chain', bytes', stands', there', is', len', small) = c.requires.held in
    let n = c.args.stored.now.len in
    let into = c.args.into.now in
    let same : chain ≡ c.in-Some.chain = cc in
    let front : length (take n into) ≡ n = length-take n into ∙ omega (arith, len', small) in
    let size : length c.read.new.into ≡ n = c.read.auto.into ∙ front in
    let le : 0 + length (take n into) ≤ length bytes = omega (arith, front, len) in
    take_at c.read.new.into (drop n into) n size
    ∙ c.read.ensures.bytes 65536 held bytes stands (subst (λ (x : Chain). Contains held (record { chain = x; bytes = bytes })) same there) le
    ∙ take_all (length (take n into)) bytes (omega (arith, front, len))
