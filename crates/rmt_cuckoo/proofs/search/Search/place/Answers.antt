use Rattle.std.proofs.Common.{◌≡◌, ℕ, ◌+◌, ◌≤◌, List, Contains, Option, Some, None, length, vec_len, subst, sym, ap, ◌∙◌, refl, arith}
use Rattle.rmt_cuckoo.specs.declared.search.Step.{Step}
use Rattle.rmt_cuckoo.specs.declared.search.Search.{Search}
use Rattle.rmt_cuckoo.specs.declared.loading.Loading.{Loading}
use Rattle.rmt_cuckoo.specs.Choices.{choices_at}
use Rattle.rmt_cuckoo.specs.Search.{AreTaken, IsLoaded, IsMarked, IsReady, IsTree, IsSearching, Looked, key_at}
use Rattle.rmt_cuckoo.proofs.SearchLaws.{few_steps}
use Rattle.rmt_cuckoo.proofs.search.Search.place.Goals as goal

-- a search that has looked at a place where a cell is free
ready : (choices : ℕ → List ℕ) (l first : Loading) (old new : Search) (steps : List Step) (place free : ℕ) (looked : Option ℕ)
    → l ≡ first → IsLoaded choices (vec_len first.cells) first
    → IsSearching choices (vec_len first.cells) first.holders.items old.steps.items old.seen.items place → place ≤ length old.steps.items
    → Looked choices (vec_len l.cells) l.holders.items place old new looked → looked ≡ Some free → steps ≡ new.steps.items
    → IsReady choices (vec_len l.cells) l steps free place
ready choices l first old new steps place free looked same loaded searching known look is steps_are =
    let found = subst (Looked choices (vec_len l.cells) l.holders.items place old new) is look in
    let here : steps ≡ old.steps.items = steps_are ∙ found.3 in
    let tree : IsTree choices (vec_len first.cells) old.steps.items first.holders.items place = record {
      there = known;
      taken = λ i lt. searching.tree.taken i (omega arith);
      earlier = λ i lt. searching.tree.earlier i (omega arith);
      chosen = λ i lt. searching.tree.chosen i (omega arith);
      apart = λ i j before lt. searching.tree.apart i j before (omega arith);
    } in
    record {
      loaded = subst (λ (m : Loading). IsLoaded choices (vec_len m.cells) m) (sym same) loaded;
      tree = subst (λ (ss : List Step). IsTree choices (vec_len l.cells) ss l.holders.items place) (sym here)
          (subst (λ (m : Loading). IsTree choices (vec_len m.cells) old.steps.items m.holders.items place) (sym same) tree);
      inside = found.1;
      free = found.0;
      chosen = subst (λ (ss : List Step). Contains (choices (key_at (vec_len l.cells) ss l.holders.items place)) free) (sym here) found.2;
    }

pub settle-requires-clause-ready : goal.settle-requires-clause-ready
settle-requires-clause-ready c =
    let l = c.loop-place in (
      choices_at c.args.choices.now,
      ready (choices_at c.args.choices.now) l.loading c.args.loading.now l.self c.look.new.self c.as_slice.result.now l.place c.in-Some.free c.in_ok-free.field-0
          l.invariant.loading c.requires.loaded l.invariant.searching (omega arith) c.in_ok-free.ensures c.in-Some.is c.as_slice.ensures.value,
    )

pub look-requires-clause-taken : goal.look-requires-clause-taken
look-requires-clause-taken c = subst (λ (m : Loading). AreTaken m.holders.items m.taken) (sym c.loop-place.invariant.loading) c.requires.taken

pub settle-requires-clause-taken : goal.settle-requires-clause-taken
settle-requires-clause-taken c = subst (λ (m : Loading). AreTaken m.holders.items m.taken) (sym c.loop-place.invariant.loading) c.requires.taken

pub returns-clause-taken : goal.returns-clause-taken
returns-clause-taken c = subst (λ (m : Loading). AreTaken m.holders.items m.taken) (sym c.loop-place.invariant.loading) c.requires.taken

pub loop-place-init : goal.loop-place-init
loop-place-init c =
    let none : length c.args.self.now.steps.items ≡ 0 = ap length c.requires.steps in
    record {
      loading = refl;
      searching = record {
        size = omega arith;
        tree = record {
          there = omega arith;
          taken = λ i lt. absurd (omega (arith, none));
          earlier = λ i lt. absurd (omega (arith, none));
          chosen = λ i lt. absurd (omega (arith, none));
          apart = λ i j before lt. absurd (omega (arith, none));
        };
        marks = subst (λ (ss : List Step). IsMarked ss c.args.self.now.seen.items) (sym c.requires.steps) c.requires.marks;
        closed = λ p lt. absurd (omega arith);
      };
      known = omega arith;
    }

none_is : (o : Option ℕ) → ((x : ℕ) → o ≡ Some x → ⊥) → o ≡ None
none_is None other = refl
none_is (Some x) other = absurd (other x refl)

-- a search that has looked at a place where no cell is free
gone_on : (choices : ℕ → List ℕ) (l first : Loading) (old new : Search) (place : ℕ) (looked : Option ℕ) → l ≡ first
    → Looked choices (vec_len l.cells) l.holders.items place old new looked → ((x : ℕ) → looked ≡ Some x → ⊥)
    → IsSearching choices (vec_len first.cells) first.holders.items new.steps.items new.seen.items (place + 1)
    × (length old.steps.items ≤ length new.steps.items)
gone_on choices l first old new place looked same look none =
    let both = subst (Looked choices (vec_len l.cells) l.holders.items place old new) (none_is looked none) look in
    (subst (λ (m : Loading). IsSearching choices (vec_len m.cells) m.holders.items new.steps.items new.seen.items (place + 1)) same both.0, both.1)

pub returns-in-Some-clause-searched : goal.returns-in-Some-clause-searched
returns-in-Some-clause-searched c =
    let l = c.loop-place in
    let choices = choices_at c.args.choices.now in
    subst (λ (m : Loading). IsLoaded choices (vec_len m.cells + 1) c.settle.new.loading) l.invariant.loading
    (c.in_ok-settle.ensures.loaded choices
    (ready choices l.loading c.args.loading.now l.self c.look.new.self c.as_slice.result.now l.place c.in-Some.free c.in_ok-free.field-0
    l.invariant.loading c.requires.loaded l.invariant.searching (omega arith) c.in_ok-free.ensures c.in-Some.is c.as_slice.ensures.value))

pub loop-place-smaller : goal.loop-place-smaller
loop-place-smaller c =
    let l = c.loop-place in
    let few = few_steps (choices_at c.args.choices.now) (vec_len c.args.loading.now.cells) c.args.loading.now.holders.items l.self.steps.items l.invariant.searching.tree in
    omega (arith, few)

pub loop-place-preserved : goal.loop-place-preserved
loop-place-preserved c =
    let l = c.loop-place in
    let next = gone_on (choices_at c.args.choices.now) l.loading c.args.loading.now l.self c.look.new.self l.place c.in_ok-free.field-0
    l.invariant.loading c.in_ok-free.ensures c.in_default.not-Some in
    record {
      loading = l.invariant.loading;
      searching = next.0;
      known = omega (arith, next.1);
    }
