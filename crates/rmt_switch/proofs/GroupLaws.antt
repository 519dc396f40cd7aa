-- Group texts, read line by line, and the numbers of a line, word by word.
use Rattle.std.proofs.Common.{◌≡◌, ℕ, ◌+◌, ◌<◌, ◌==◌, true, false, List, [], ◌∷◌, ◌++◌, Option, Some, None, Result, Ok, Err, length, refl, sym, ap, subst, ◌∙◌, append_assoc, arith}
use Rattle.std.specs.List.{before_first, after_first}
use Rattle.std.specs.Result.{IsErrAnd}
use Rattle.rmt_bits.specs.Lines.{is_passed_over, numbered_lines}
use Rattle.rmt_bits.proofs.LineLaws.{is_feed, numbered_lines-first, is_space, word_first, word_none}
use Rattle.rmt_switch.specs.declared.fault.GroupFault.{GroupFault}
use Rattle.rmt_switch.specs.declared.fault.GroupFault.TheVariants.{At, NoMemory}
use Rattle.rmt_switch.specs.Fault.{Gives, IsFault}
use Rattle.rmt_switch.specs.GroupText.{all_ports, before, group_of, groups_of, no_groups, numbers_of, port_of, reading, with_group, words}
use Rattle.rmt_switch.specs.LinesSoFar.{Reads, behind}

-- ---- words

module _ (numbers : List ℕ) (said : Option (List ℕ)) (line word rest : List ℕ) (so_far : said ≡ behind numbers (all_ports (words line))) (front : word ≡ before_first is_space line) (back : rest ≡ after_first is_space line) where
  -- a word says a number
  pub number_more : (n : ℕ) → (length word == 0) ≡ false → port_of word ≡ Some n → said ≡ behind (numbers ++ n ∷ []) (all_ports (words rest))
  number_more n some e = so_far ∙ ap (λ ws. behind numbers (all_ports ws)) here ∙ ap (λ o. behind numbers (before o (all_ports (words rest)))) e ∙ moved (all_ports (words rest))
    where
      here : words line ≡ word ∷ words rest
      here = word_first line word rest front back some

      moved : (o : Option (List ℕ)) → behind numbers (before (Some n) o) ≡ behind (numbers ++ n ∷ []) o
      moved None = refl
      moved (Some ns) = ap Some (sym (append_assoc numbers (n ∷ []) ns))

  -- a word says none
  pub number_none : (length word == 0) ≡ false → port_of word ≡ None → said ≡ None
  number_none some e = so_far ∙ ap (λ ws. behind numbers (all_ports ws)) here ∙ ap (λ o. behind numbers (before o (all_ports (words rest)))) e
    where
      here : words line ≡ word ∷ words rest
      here = word_first line word rest front back some

  -- nothing stands between two spaces
  pub number_skipped : (length word == 0) ≡ true → said ≡ behind numbers (all_ports (words rest))
  number_skipped none = so_far ∙ ap (λ ws. behind numbers (all_ports ws)) next
    where
      next : words line ≡ words rest
      next = word_none line word rest front back none

-- ---- lines

-- nothing is read yet
pub reads_first : (text : List ℕ) → Reads text text 1 no_groups
reads_first text = record { same = refl; few = omega arith }

module _ (text rest : List ℕ) (n : ℕ) (groups : List (List ℕ)) (r : Reads text rest n groups) (line left : List ℕ) (front : line ≡ before_first is_feed rest) (back : left ≡ after_first is_feed rest) (shorter : length left < length rest) where
  here : is_passed_over line ≡ false → numbered_lines n rest ≡ (n, line) ∷ numbered_lines (n + 1) left
  here h = numbered_lines-first n rest ∙ rw (← front, ← back, h) refl

  skipped : is_passed_over line ≡ true → numbered_lines n rest ≡ numbered_lines (n + 1) left
  skipped h = numbered_lines-first n rest ∙ rw (← front, ← back, h) refl

  -- a line is passed over
  pub reads_passed : is_passed_over line ≡ true → Reads text left (n + 1) groups
  reads_passed h = record {
    same = r.same ∙ ap (reading groups) (skipped h);
    few = omega (arith, r.few, shorter);
  }

  -- a line adds its group
  pub reads_added : (more : List (List ℕ)) → is_passed_over line ≡ false → with_group groups (group_of (numbers_of line)) ≡ Some more → Reads text left (n + 1) more
  reads_added more h said = record {
    same = r.same ∙ ap (reading groups) (here h) ∙ rw said refl;
    few = omega (arith, r.few, shorter);
  }

  -- a line is bad
  pub reads_bad : is_passed_over line ≡ false → with_group groups (group_of (numbers_of line)) ≡ None → groups_of text ≡ Err (At 8 n)
  reads_bad h bad = r.same ∙ ap (reading groups) (here h) ∙ rw bad refl

-- a fault of a line, where the whole text has it
pub gives_fault : (fault : GroupFault) (n : ℕ) (wanted : Result (List (List ℕ)) GroupFault) (bad : Type 0) → IsFault fault n bad → (bad → wanted ≡ Err (At 8 n)) → Gives (Err fault) wanted
gives_fault NoMemory n wanted bad h each = tt
gives_fault (At code line) n wanted bad h each = each h.2 ∙ rw (h.0, h.1) refl

-- a fault that is handed on
pub gives_handed : (r : Result (List (List ℕ)) GroupFault) (fault : GroupFault) (wanted : Result (List (List ℕ)) GroupFault) → IsErrAnd r (λ e. e ≡ fault) → Gives (Err fault) wanted → Gives r wanted
gives_handed (Ok x) fault wanted h g = absurd h
gives_handed (Err e) fault wanted h g = subst (λ (f : GroupFault). Gives (Err f) wanted) (sym h) g
