use Rattle.std.proofs.Common.{◌≡◌, ◌+◌, ◌++◌, ◌∷◌, [], List, refl, sym, ap, ◌∙◌, subst, take, arith}
use Rattle.std.proofs.lemmas.List.{length-take, take_all, take_more}
use Rattle.rmt_ast.specs.declared.entry.Entry.{Entry}
use Rattle.rmt_ast.specs.declared.program.Test.{Test}
use Rattle.rmt_lists.specs.Holding.{Holds, spelled}
use Rattle.rmt_lists.proofs.start.held_in.Goals as goal

pub push-requires : goal.push-requires
push-requires c =
    let count = c.loop-entry.invariant.count in
    let long = length-take c.loop-entry.entry-index c.args.entries.now in
    let lt = c.loop-entry-test.true in
    let few = c.requires in
    record { few = omega (arith, count, long, lt, few) }

pub loop-entry-preserved : goal.loop-entry-preserved
loop-entry-preserved c =
    let es = c.args.entries.now in
    let i = c.loop-entry.entry-index in
    let e = c.entry-item.result in
    let key = c.in_ok-key.ensures ∙ ap (λ (ts : List Test). spelled (record { tests = ts; rank = e.rank })) c.as_slice.ensures in
    let more : take (i + 1) es ≡ take i es ++ e ∷ [] = take_more es i e c.loop-entry-test.true ∙ ap (λ (x : Entry). take i es ++ x ∷ []) (sym c.entry-item.is) in
    subst (Holds c.push.new.self) (sym more) (c.in_ok-push.ensures.held (take i es) e c.loop-entry.invariant key refl)

pub returns : goal.returns
returns c = subst (Holds c.loop-entry.held) (take_all c.loop-entry.entry-index c.args.entries.now c.loop-entry-test.false) c.loop-entry.invariant
