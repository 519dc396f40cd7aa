use Rattle.std.proofs.Common.{◌≡◌, ◌≤◌, ◌∙◌, ◌+◌, ℕ, List, Option, add-zero, ap, arith, length, refl, subst, sym}
use Rattle.std.specs.Prelude.{All}
use Rattle.std.specs.List.{flat_map}
use Rattle.rmt_ast.specs.Answers.{entry_numbers}
use Rattle.rmt_ast.specs.Changes.{next_number}
use Rattle.rmt_ast.specs.declared.entry.Entry.{Entry}
use Rattle.rmt_lists.specs.Stands.{AreHeld, AreLeft}
use Rattle.rmt_lists.proofs.NewLaws.{few_entries, left_first, next_up_to}
use Rattle.rmt_lists.proofs.lists.Lists.new.Goals as goal

pub held_of-requires : goal.held_of-requires
held_of-requires c =
    subst (λ (ls : List (List Entry)). All (λ (es : List Entry). length es ≤ 1048576) ls) (sym c.as_slice.ensures) (few_entries c.args.names c.args.entries c.requires.formed c.requires.entries)

pub returns-clause-stands : goal.returns-clause-stands
returns-clause-stands c =
    let first : c.next_number-first.result ≡ next_number c.args.entries = c.next_number-first.ensures ∙ ap next_number c.as_slice-2.ensures in
    let most = next_up_to 4293918720 0 (flat_map entry_numbers c.args.entries) c.requires.numbers (omega arith) in
    record {
      names = refl;
      formed = c.requires.formed;
      tables = c.requires.entries.tables;
      last = refl;
      left = subst (λ (n : ℕ). AreLeft c.args.entries c.new.result.keys c.new-2.result.items n c.args.entries) (sym first) (left_first c.args.names c.args.entries c.requires.formed c.requires.entries c.new.result.keys c.new-2.result.items c.new.ensures.empty c.new-2.ensures.items);
      next = ap (λ (xs : List (Option Entry)). c.next_number-first.result + length xs) c.new-2.ensures.items ∙ add-zero c.next_number-first.result ∙ first;
      held = subst (λ (ls : List (List Entry)). AreHeld c.in_ok-held.held.items ls) c.as_slice.ensures c.in_ok-held.ensures;
      taken = refl;
      most = refl;
      numbers = record { few = omega arith; at_most = c.requires.few; room = omega (arith, most) };
    }
