use Rattle.std.proofs.Common.{◌≡◌, ℕ, ◌+◌, ◌<◌, ◌≤◌, List, All, length, vec_len, get_or, subst, sym, ap, ◌∙◌, arith}
use Rattle.rmt_cuckoo.specs.declared.search.Step.{Step}
use Rattle.rmt_cuckoo.specs.declared.loading.Loading.{Loading}
use Rattle.rmt_cuckoo.specs.Choices.{IsWay, choices_at}
use Rattle.rmt_cuckoo.specs.Search.{AreTaken, IsLoaded, key_at}
use Rattle.rmt_cuckoo.proofs.RowLaws.{end_weaker}
use Rattle.rmt_cuckoo.proofs.SearchLaws.{key_known, search_more}
use Rattle.rmt_cuckoo.proofs.search.Search.look.Goals as goal
use Rattle.rmt_cuckoo.proofs.search.Search.look.Goals.{After-key_at-key}

-- the key that is looked at is known
known : (c : After-key_at-key) → c.key_at-key.result < vec_len c.args.loading.now.cells + 1
known c =
    subst (λ (k : ℕ). k < vec_len c.args.loading.now.cells + 1) (sym c.key_at-key.ensures)
    (key_known (choices_at c.args.choices.now) (vec_len c.args.loading.now.cells) c.args.loading.now c.requires.loaded c.as_slice.result.now c.args.place)

pub free_cell-requires-clause-known : goal.free_cell-requires-clause-known
free_cell-requires-clause-known c = let lt = known (goal.at.free_cell-requires-clause-known c).After-key_at-key in omega (arith, lt, c.requires.within.known)

pub free_cell-requires-clause-within : goal.free_cell-requires-clause-within
free_cell-requires-clause-within c =
    let size : length c.as_slice-2.result.now ≡ vec_len c.args.loading.now.holders = omega arith in
    subst (λ (n : ℕ). All (IsWay n) c.args.choices.now.ways.items) (sym size) c.requires.within.ways

pub free_cell-requires-clause-taken : goal.free_cell-requires-clause-taken
free_cell-requires-clause-taken c =
    subst (λ (hs : List ℕ). AreTaken hs c.args.loading.now.taken) (sym c.as_slice-2.ensures.value) c.requires.taken

pub put-requires-clause-known : goal.put-requires-clause-known
put-requires-clause-known c = let lt = known (goal.at.put-requires-clause-known c).After-key_at-key in omega (arith, lt, c.requires.within.known)

pub put-requires-clause-within : goal.put-requires-clause-within
put-requires-clause-within c =
    let few : vec_len c.args.loading.now.holders ≤ 4294967295 = omega arith in
    end_weaker (vec_len c.args.loading.now.holders) 4294967295 few c.args.choices.now.ways.items c.requires.within.ways

pub returns-in_ok-mark-in-None : goal.returns-in_ok-mark-in-None
returns-in_ok-mark-in-None c =
    let n = vec_len c.args.loading.now.cells in
    let ch = c.args.choices.now in
    let holders = c.args.loading.now.holders.items in
    let steps = c.args.self.now.steps.items in
    let row = c.as_slice-in-None.result.now in
    let own : row ≡ choices_at ch c.key_at-key.result = c.as_slice-in-None.ensures.value ∙ c.in_ok-put-in-None.ensures in
    let key : row ≡ choices_at ch (key_at n steps holders c.args.place) =
    own ∙ ap (choices_at ch) (c.key_at-key.ensures ∙ ap (λ (ss : List Step). key_at n ss holders c.args.place) c.as_slice.ensures.value) in
    let taken : All (λ x. 0 < get_or holders x 0) row =
    subst (All (λ x. 0 < get_or holders x 0)) (sym own)
    (subst (λ (hs : List ℕ). All (λ x. 0 < get_or hs x 0) (choices_at ch c.key_at-key.result)) c.as_slice-2.ensures.value (c.free_cell.ensures.none c.in-None.is)) in
    let place : c.args.place ≤ length steps = omega arith in (
      search_more (choices_at ch) n holders steps c.args.self.now.seen.items c.args.place row c.mark.new.steps.items c.mark.new.seen.items
          c.requires.searching place key taken c.in_ok-mark-in-None.ensures.grows c.in_ok-mark-in-None.ensures.all,
      c.in_ok-mark-in-None.ensures.grows.longer,
    )
