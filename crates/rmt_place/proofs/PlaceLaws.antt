-- The steps of placing nodes.
use Rattle.std.proofs.Common.{◌≡◌, ℕ, ◌<◌, List, ◌++◌, length, get_or, filter, max, true, eqb, sym, ap, ◌∙◌, arith}
use Rattle.std.specs.List.{All, fold, range_with_len}
use Rattle.std.proofs.lemmas.List.Elements.{filter-append}
use Rattle.std.proofs.lemmas.List.Sums.{fold-append}
use Rattle.rmt_bits.proofs.AllLaws.{All-flat_map, All-between}
use Rattle.rmt_ast.specs.declared.deps.Edge.{Edge}
use Rattle.rmt_deps.proofs.Ends.{ending}
use Rattle.rmt_pack.specs.declared.placement.Part.{Part}
use Rattle.rmt_pack.proofs.FormatLaws.{filtered}
use Rattle.rmt_place.specs.Placing.{allowed_by, earliest_stage, order_of}

-- ---- the earliest stage

-- the greatest stage that edges allow, from one on
abbrev pub behind : List Part → ℕ → List Edge → ℕ
behind parts stage edges = fold (λ most (e : Edge). max most (allowed_by parts e)) stage edges

-- edges behind others
pub behind_both : (parts : List Part) (n : ℕ) (field word : List Edge)
    → behind parts (behind parts 0 (ending n field)) (ending n word) ≡ earliest_stage (field ++ word) parts n
behind_both parts n field word =
    sym (ap (behind parts 0) (filter-append (λ (e : Edge). eqb e.to n) field word)
    ∙ fold-append (λ most (e : Edge). max most (allowed_by parts e)) 0 (ending n field) (ending n word))

-- ---- the order of nodes

pub order_nodes : (levels : List ℕ) → All (λ n. n < length levels) (order_of levels)
order_nodes levels =
    All-flat_map (λ n. n < length levels) (λ level. filter (λ n. eqb (get_or levels n 0) level) (range_with_len 0 (length levels))) (range_with_len 0 (length levels))
    (All-between (λ level. All (λ n. n < length levels) (filter (λ n. eqb (get_or levels n 0) level) (range_with_len 0 (length levels)))) 0 (length levels)
    (λ level low high. filtered (λ n. n < length levels) (λ n. eqb (get_or levels n 0) level) (range_with_len 0 (length levels))
    (All-between (λ n. eqb (get_or levels n 0) level ≡ true → n < length levels) 0 (length levels) (λ n more few is. omega arith))))

-- ---- one node
