-- Checks of the rules one after another, and what the answers of the readers say of a text.
use Rattle.std.proofs.Common.{◌≡◌, ℕ, List, None, Some, Option, option_map, Result, Ok, Err, sym, ap, subst, arith, suc, ◌+◌, ◌-◌, ◌<◌, ◌≤◌, [], ◌∷◌, get_or, drop, drop-cons, ap₂, ◌∙◌}
use Rattle.std.specs.Prelude.{Vec}
use Rattle.std.specs.declared.alloc.Global.{Global}
use Rattle.rmt_check.specs.Parts.{Program, Position, ProgramFault, Token, Tree, Source}
use Rattle.rmt_lexer.specs.declared.fault.ProgramFault.TheVariants.{NoMemory, At}
use Rattle.rmt_lexer.specs.Text.{Gives, tokens_of}
use Rattle.rmt_syntax.specs.Trees as trees
use Rattle.rmt_syntax.specs.Trees.{IsTreeOf}
use Rattle.rmt_check.specs.Reading.{source_of}
use Rattle.rmt_check.specs.Rules.{fault_of, broken, earliest, least_of}
use Rattle.rmt_check.specs.Meaning.{Answers, fault_at}
use Rattle.rmt_check.specs.Means.{Means, SaysMeaning, of_tokens, of_grammar, of_rules, of_program}
use Rattle.std.specs.Option.{option_or}
use Rattle.std.proofs.lemmas.List.{get_or-map}
use Rattle.std.proofs.lemmas.List.FromFn.{get_or-range_with_len}
use Rattle.rmt_check.specs.Checking.{IsFault, broken_by}

-- The rules in the order of their codes.
module _ (s : Source) where
  code_at : (i : ℕ) → i < 17 → (get_or (broken s) i (0, [])).0 ≡ 5 + i
  code_at i lt = sym (get_or-map (λ (rule : ℕ × List Position). rule.0) (broken s) i (0, []) 0 lt) ∙ get_or-range_with_len 5 17 i 0 lt

  module _ (code : ℕ) (from : 5 ≤ code) (to : code < 22) where
    at_code : drop (code - 5) (broken s) ≡ (code, broken_by code s) ∷ drop (code + 1 - 5) (broken s)
    at_code =
        let within : code - 5 < 17 = omega arith in
        let next : suc (code - 5) ≡ code + 1 - 5 = omega arith in
        let own : 5 + (code - 5) ≡ code = omega arith in
        drop-cons (broken s) (code - 5) (0, []) within
        ∙ ap₂ (λ (c n : ℕ). (c, broken_by code s) ∷ drop n (broken s)) (code_at (code - 5) within ∙ own) next

    -- the rule of a code is kept: those behind it decide
    pub kept_at : earliest (broken_by code s) ≡ None → least_of (drop (code - 5) (broken s)) ≡ least_of (drop (code + 1 - 5) (broken s))
    kept_at none = ap least_of at_code ∙ ap (λ (o : Option Position). option_or (option_map (λ (p : Position). (code, p)) o) (least_of (drop (code + 1 - 5) (broken s)))) none

    -- it is broken
    pub broken_there : (p : Position) → earliest (broken_by code s) ≡ Some p → least_of (drop (code - 5) (broken s)) ≡ Some (code, p)
    broken_there p some = ap least_of at_code ∙ ap (λ (o : Option Position). option_or (option_map (λ (q : Position). (code, q)) o) (least_of (drop (code + 1 - 5) (broken s)))) some

-- The answer to a text.
pub fault_answers : (s : Source) (e : ProgramFault) → IsFault (broken s) e → Answers s (Err e)
fault_answers s e h = grind arith

pub tokens_fault : (text : List ℕ) (e : ProgramFault) → Gives (λ (v : Vec Token Global). v.items) (Err e) (tokens_of text) → SaysMeaning text (Err e)
tokens_fault text e h = grind (arith, of_tokens)

pub syntax_fault : (text : List ℕ) (tokens : List Token) (e : ProgramFault) → tokens_of text ≡ Ok tokens → trees.Answers tokens (Err e) → SaysMeaning text (Err e)
syntax_fault text tokens e is h = grind (arith, of_grammar)

fault_is : (o : Option (ℕ × Position)) (code line column : ℕ) → option_map fault_at o ≡ Some (At code line column) → o ≡ (let p : Position = record { line = line; column = column } in Some (code, p))
fault_is o code line column e = grind arith

pub checked : (text : List ℕ) (tokens : List Token) (t : Tree) (r : Result Program ProgramFault) → tokens_of text ≡ Ok tokens → IsTreeOf tokens t → Answers (source_of t) r → SaysMeaning text r
checked text tokens t (Ok p) is tree h = subst (λ q. Means text (Ok q)) (sym h.1) (of_program tokens t is tree h.0)
checked text tokens t (Err NoMemory) is tree h = tt
checked text tokens t (Err (At code line column)) is tree h =
    let p : Position = record { line = line; column = column } in of_rules tokens t (code, p) is tree (fault_is (fault_of (source_of t)) code line column h)
