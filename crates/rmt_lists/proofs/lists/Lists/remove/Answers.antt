use Rattle.std.proofs.Common.{◌<◌, ◌+◌, ◌∙◌, ℕ, List, ap, arith, length, subst, sym}
use Rattle.std.proofs.lemmas.List.{length-set}
use Rattle.rmt_ast.specs.declared.program.Test.{Test}
use Rattle.rmt_ast.specs.Changes.{list_of, removed, without}
use Rattle.rmt_lists.specs.Holding.{Holds, spelled}
use Rattle.rmt_lists.specs.Running.{key_of_name}
use Rattle.rmt_lists.proofs.FilterLaws.{list_of-other, list_of-set}
use Rattle.rmt_lists.proofs.KeyLaws.{length-without, some_keyed}
use Rattle.rmt_lists.proofs.LeftLaws.{left_removed}
use Rattle.rmt_lists.proofs.StandLaws.{held_at, held_set, not_removed, removed_stands}
use Rattle.rmt_lists.proofs.lists.Lists.remove.Goals as goal

pub returns-in_default-clause-fault : goal.returns-in_default-clause-fault
returns-in_default-clause-fault c r s =
    let k = c.args.key in
    let within : k.table < length c.args.self.now.held.items = omega (arith, c.if-node-len.false, c.len.ensures, c.args.self.now.held.ok.0) in
    let held = held_at c.args.self.now.held.items r.now.lists k.table c.index.result.now s.held within c.index.ensures in
    let own = c.in_ok-words.ensures ∙ ap (λ (ts : List Test). spelled (record { tests = ts; rank = k.rank })) c.as_slice.ensures in
    not_removed r k (sym (c.first.ensures (list_of r.now.lists k.table) (key_of_name k) held own) ∙ c.in_default.is)

pub pop-requires : goal.pop-requires
pop-requires c =
    let r = c.requires.stands.0 in
    let s = c.requires.stands.1 in
    let k = c.args.key in
    let es = list_of r.now.lists k.table in
    let within : k.table < length c.args.self.now.held.items = omega (arith, c.if-node-len.false, c.len.ensures, c.args.self.now.held.ok.0) in
    let held = held_at c.args.self.now.held.items r.now.lists k.table c.index.result.now s.held within c.index.ensures in
    let mine = held_at c.args.self.now.held.items r.now.lists k.table c.index_mut.result.now s.held within c.index_mut.ensures.value in
    let own = c.in_ok-words.ensures ∙ ap (λ (ts : List Test). spelled (record { tests = ts; rank = k.rank })) c.as_slice.ensures in
    let some = sym (c.first.ensures es (key_of_name k) held own) ∙ c.in-Some.is in
    let one = length-without (key_of_name k) es (some_keyed (key_of_name k) es c.in-Some.number some) in
    record { some = omega (arith, one, mine.count) }

pub returns-clause-changed : goal.returns-clause-changed
returns-clause-changed c r s =
    let k = c.args.key in
    let key = key_of_name k in
    let node = k.table in
    let lists = r.now.lists in
    let es = list_of lists node in
    let within : node < length c.args.self.now.held.items = omega (arith, c.if-node-len.false, c.len.ensures, c.args.self.now.held.ok.0) in
    let inside : node < length lists = omega (arith, within, s.held.count) in
    let held = held_at c.args.self.now.held.items lists node c.index.result.now s.held within c.index.ensures in
    let mine = held_at c.args.self.now.held.items lists node c.index_mut.result.now s.held within c.index_mut.ensures.value in
    let own = c.in_ok-words.ensures ∙ ap (λ (ts : List Test). spelled (record { tests = ts; rank = k.rank })) c.as_slice.ensures in
    let some = sym (c.first.ensures es key held own) ∙ c.in-Some.is in
    let has = some_keyed key es c.in-Some.number some in
    let left =
    left_removed r.last c.args.self.now.gone.keys c.args.self.now.come.items c.args.self.now.first lists s.left node key c.in-Some.number some c.take_away.new.gone.keys c.take_away.new.come.items
    inside c.in_ok-take_away.ensures.goes c.in_ok-take_away.ensures.stays in
    removed_stands r k c.in-Some.number _ some (record {
      names = s.names;
      formed = s.formed;
      tables = s.tables;
      last = s.last;
      left = left.0;
      next = ap (λ (n : ℕ). c.args.self.now.first + n) left.1 ∙ s.next;
      held =
          held_set c.args.self.now.held.items lists (removed lists node key) node c.pop.new.self s.held (length-set lists node (without key es))
          (subst (Holds c.pop.new.self) (sym (list_of-set lists node (without key es) inside)) (c.pop.ensures es key mine own has))
          (λ m apart. list_of-other lists node m (without key es) apart);
      taken = s.taken;
      most = s.most;
      numbers = s.numbers;
    })
