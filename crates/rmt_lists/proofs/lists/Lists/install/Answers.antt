use Rattle.std.proofs.Common.{◌≡◌, ◌+◌, ◌<◌, ◌∙◌, ◌∷◌, ◌++◌, [], ℕ, List, Option, Some, ap, arith, length, length-append, refl, subst, sym}
use Rattle.std.proofs.lemmas.List.{length-set}
use Rattle.rmt_ast.specs.declared.entry.Entry.{Entry}
use Rattle.rmt_ast.specs.Changes.{added, list_of}
use Rattle.rmt_lists.specs.Holding.{Holds}
use Rattle.rmt_lists.specs.Stands.{AreLeft}
use Rattle.rmt_lists.proofs.FilterLaws.{list_of-other, list_of-set}
use Rattle.rmt_lists.proofs.LeftLaws.{left_added}
use Rattle.rmt_lists.proofs.ResultLaws.{on_err}
use Rattle.rmt_lists.proofs.StandLaws.{held_at, held_set}
use Rattle.rmt_lists.proofs.lists.Lists.install.Goals as goal

pub returns-in_err-push-clause-kept : goal.returns-in_err-push-clause-kept
returns-in_err-push-clause-kept c =
    on_err c.from_residual-in_err-push.result _ (λ r s.
    let node = c.args.entry.table in
    let here = held_at c.args.self.now.held.items r.now.lists node c.index_mut.result.now s.held c.requires.within c.index_mut.ensures.value in
    record {
      names = s.names;
      formed = s.formed;
      tables = s.tables;
      last = s.last;
      left = subst (λ (xs : List (Option Entry)). AreLeft r.last c.args.self.now.gone.keys xs c.args.self.now.first r.now.lists) (sym c.in_ok-reserve.ensures.items) s.left;
      next = ap (λ (xs : List (Option Entry)). c.args.self.now.first + length xs) c.in_ok-reserve.ensures.items ∙ s.next;
      held = held_set c.args.self.now.held.items r.now.lists r.now.lists node c.push.new.self s.held refl (c.in_err-push.ensures.kept (list_of r.now.lists node) here) (λ m apart. refl);
      taken = s.taken;
      most = s.most;
      numbers = s.numbers;
    })

pub returns-clause-changed : goal.returns-clause-changed
returns-clause-changed c r s =
    let node = c.args.entry.table in
    let lists = r.now.lists in
    let come = c.args.self.now.come.items in
    let first = c.args.self.now.first in
    let len : c.len.result ≡ length come = c.len.ensures ∙ c.in_ok-reserve.ensures.len ∙ c.args.self.now.come.ok.0 in
    let here = held_at c.args.self.now.held.items lists node c.index_mut.result.now s.held c.requires.within c.index_mut.ensures.value in
    let number : first + c.len.result ≡ r.now.next = ap (λ (n : ℕ). first + n) len ∙ s.next in
    let e : Entry = record c.args.entry { number = r.now.next } in
    let items : c.push_reserved.new.self.items ≡ come ++ Some e ∷ [] =
    c.push_reserved.ensures.items ∙ ap (λ (xs : List (Option Entry)). xs ++ Some (record c.args.entry { number = first + c.len.result }) ∷ []) c.in_ok-reserve.ensures.items
    ∙ ap (λ (n : ℕ). come ++ Some (record c.args.entry { number = n }) ∷ []) number in
    let within : node < length lists = omega (arith, c.requires.within, s.held.count) in
    let inside : node < length r.last = omega (arith, within, s.left.count) in
    let count = length-set lists node (list_of lists node ++ e ∷ []) in
    record {
      names = s.names;
      formed = s.formed;
      tables = s.tables;
      last = s.last;
      left =
          subst (λ (xs : List (Option Entry)). AreLeft r.last c.args.self.now.gone.keys xs first (added lists e)) (sym items)
          (left_added r.last c.args.self.now.gone.keys come first lists s.left e (sym s.next) inside);
      next = ap (λ (xs : List (Option Entry)). first + length xs) items ∙ omega (arith, s.next, length-append come (Some e ∷ []));
      held =
          held_set c.args.self.now.held.items lists (added lists e) node c.push.new.self s.held count
          (subst (Holds c.push.new.self) (sym (list_of-set lists node (list_of lists node ++ e ∷ []) within)) (c.in_ok-push.ensures.held (list_of lists node) e here c.requires.own (sym number)))
          (λ m apart. list_of-other lists node m (list_of lists node ++ e ∷ []) apart);
      taken = ap (λ (n : ℕ). n + 1) s.taken;
      most = s.most;
      numbers = record { few = omega (arith, c.requires.few, s.taken, s.most); at_most = s.numbers.at_most; room = omega (arith, s.numbers.room) };
    }
