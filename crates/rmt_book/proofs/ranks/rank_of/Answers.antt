use Rattle.std.proofs.Common.{◌≡◌, ◌≤◌, ◌<◌, ◌^◌, ℕ, List, true, length, sum, unwrap_or, sym, ap, ◌∙◌, subst}
use Rattle.std.proofs.lemmas.Bool.{and_parts, eqb-true}
use Rattle.rmt_bits.specs.Bits.{number_of}
use Rattle.rmt_ast.specs.NameRules.{are_widths, has_fields, table_is_formed}
use Rattle.rmt_ast.specs.declared.names.TableName.{TableName}
use Rattle.rmt_ast.specs.declared.program.Kind.{Kind}
use Rattle.rmt_ast.specs.declared.program.Kind.TheVariants as kind
use Rattle.rmt_config.specs.NamesForm.{prefix_length, rank_in}
use Rattle.rmt_book.proofs.RankLaws.{sum-short}
use Rattle.rmt_book.proofs.ranks.rank_of.Goals as goal

one_field : (t : TableName) → t.kind ≡ kind.Prefix → table_is_formed t ≡ true → length t.keys ≡ 1
one_field t is h = eqb-true (length t.keys) 1 (subst (λ (k : Kind). has_fields k t.keys ≡ true) is (and_parts _ _ (and_parts _ _ (and_parts _ _ (and_parts _ _ h).0).0).0).1)

widths : (t : TableName) → table_is_formed t ≡ true → are_widths t.keys ≡ true
widths t h = (and_parts _ _ (and_parts _ _ (and_parts _ _ (and_parts _ _ (and_parts _ _ h).0).0).0).0).1

pub prefix_rank-requires-clause-one : goal.prefix_rank-requires-clause-one
prefix_rank-requires-clause-one c = ap (λ (ws : List ℕ). length ws) c.as_slice.ensures ∙ one_field c.args.table.now c.in-Prefix.is c.requires.formed

pub prefix_rank-requires-clause-short : goal.prefix_rank-requires-clause-short
prefix_rank-requires-clause-short c =
    let t = c.args.table.now in
    subst (λ (ws : List ℕ). sum ws ≤ 128) (sym c.as_slice.ensures) (sum-short t.keys (one_field t c.in-Prefix.is c.requires.formed) (widths t c.requires.formed))

pub prefix_rank-requires-clause-mask : goal.prefix_rank-requires-clause-mask
prefix_rank-requires-clause-mask c =
    subst (λ (ws : List ℕ). number_of c.as_slice-in-Prefix.result.now < 2 ^ sum ws) (sym c.as_slice.ensures)
    (subst (λ (bs : List ℕ). number_of bs < 2 ^ sum c.args.table.now.keys) (sym c.as_slice-in-Prefix.ensures.value) (c.requires.mask c.in-Prefix.is))

pub returns-in-Prefix : goal.returns-in-Prefix
returns-in-Prefix c =
    let t = c.args.table.now in
    c.prefix_rank.ensures
    ∙ ap (λ (ws : List ℕ). unwrap_or (prefix_length (sum ws) (number_of c.as_slice-in-Prefix.result.now)) 0) c.as_slice.ensures
    ∙ ap (λ (bs : List ℕ). unwrap_or (prefix_length (sum t.keys) (number_of bs)) 0) c.as_slice-in-Prefix.ensures.value
    ∙ ap (λ (k : Kind). rank_in k t (number_of c.args.kept.now.mask.items) c.args.kept.now.number) (sym c.in-Prefix.is)
