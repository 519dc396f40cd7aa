-- The words that the proofs speak in: of std, of tokens, and of the specs.
pub use Rattle.std.proofs.Common.{◌≡◌, inl, inr, ℕ, zero, suc, Bool, true, false, sym, refl, subst, List, [], ◌∷◌, ◌++◌, map, ◌∙◌, ◌⊎◌, ap, Some, ◌+◌, Option, None, ◌<◌, ◌≤◌, take, drop, length, arith, rules, length-append, add-one, append_assoc, append-nil, fold, cond, ap₂}
pub use Rattle.std.specs.List.{list_all, list_any, flat_map, find}
pub use Rattle.std.specs.Prelude.{Result, Ok, Err, ◌&&◌, ◌||◌, if◌then◌else◌, codes, not, slice_get, nat_lt, ◌==◌}
pub use Rattle.std.specs.Str.{bytes_eq}
pub use Rattle.std.proofs.lemmas.Bool.{ltb-true, cond-true, cond-false, cases_Bool, false_from_ne_true, and_parts, or_cases, or_left, or_right, not-true, both_ways}
pub use Rattle.std.proofs.lemmas.Bool.Decides.{eqb_tells, leb_tells}
pub use Rattle.std.proofs.lemmas.Grind.{flat_map-append, fold-append}
pub use Rattle.std.proofs.lemmas.List.{take-append-drop, take-take, length-take-le, take_all, append_cancel_left}
pub use Rattle.std.proofs.lemmas.List.Folds.{list_any-append}
pub use Rattle.std.proofs.lemmas.Option.{slice_get_within, same_Some, get_or_from_slice_get}
pub use Rattle.std.proofs.Math.Bool.{or-false}
pub use Rattle.std.proofs.Math.Seq.{take-suc}
pub use denote.Enum.Bare.{same_true, same_false, true_same}
pub use Rattle.rmt_bits.proofs.ListLaws.{slice_get-item, append-nil_left, append-nil_right}
pub use Rattle.rmt_lexer.specs.Text.{EndsOnce}
pub use Rattle.rmt_lexer.specs.declared.fault.ProgramFault.{ProgramFault}
pub use Rattle.rmt_lexer.specs.declared.fault.ProgramFault.TheVariants.{NoMemory, At}
pub use Rattle.rmt_lexer.specs.declared.token.Token.{Token}
pub use Rattle.rmt_lexer.specs.declared.token.TokenKind.{TokenKind}
pub use Rattle.rmt_syntax.specs.Grammar.{Part, One, Node, Phrase, Whole, Done, Terminal, Rule, Form, choices, keywords, signs, terminal_of, entry, word_terminal}
pub use Rattle.rmt_syntax.specs.Lookahead.{same, is_done, member, Apart, first_of, first_form, first_phrase, is_empty, may_end, height, tails, is_operand_name, may_begin, choice_of, weight, front, Orderly}
pub use Rattle.rmt_syntax.specs.State.{IsBefore, Before, goals_of, outer_goals, frame_marks, frame_goals, marks_of}
pub use Rattle.rmt_syntax.specs.Trees.{Mark, leaf, opens, shuts, Goal, part, phrase, shut, Reads, nothing, token, node, end, done, choose, tokens_in, IsNested, depth_of, marks, marks_step, TooDeep, IsText, IsFront, depth_after, IsFaultAt, IsTreeOf, IsNestedFrom, IsOf, Follows, AreParts, ArePartsOf, IsTokenOf, stop, onward, Unexpected, HasFault, HasTree, IsFault, Answers, Gives}
pub use Rattle.rmt_syntax.specs.contracts.terminal.Terminal.{the_type}
pub use Rattle.rmt_syntax.specs.declared.grammar.Phrase.TheVariants.{FieldEnd, Statements}
pub use Rattle.rmt_syntax.specs.declared.terminal.Terminal.TheVariants.{Name, Other}
pub use Rattle.rmt_syntax.specs.declared.tree.Rule.TheVariants as rule
pub use Rattle.rmt_syntax.specs.declared.terminal.Terminal.TheVariants as terminal
pub use Rattle.rmt_lexer.specs.declared.token.TokenKind.TheVariants as kind
