-- What the numbers of failing calls say of the next call.
use Rattle.std.proofs.Common.{◌≡◌, ℕ, ◌+◌, ◌<◌, ◌≤◌, false, suc, leb, List, [], ◌∷◌, length, get_or, refl, arith}
use Rattle.std.specs.Bool.{IsTrue}
use Rattle.std.proofs.lemmas.Bool.{and_parts, and_from, leb-true, le-leb}
use Rattle.std.proofs.lemmas.Bool.Decides.{nat_tests}
use Rattle.rmt_io.specs.Calls.{fails_next, fails_no_more}

-- where no number is as great, the next call does not fail
pub fails_next_none : (fails : List ℕ) (calls : ℕ) → ((k : ℕ) → k < length fails → get_or fails k 0 < calls + 1) → fails_next fails calls ≡ false
fails_next_none [] calls below = refl
fails_next_none (x ∷ xs) calls below =
    let here : x < calls + 1 = below 0 (omega arith) in
    let rest : fails_next xs calls ≡ false = fails_next_none xs calls (λ k h. below (suc k) (omega arith)) in
    grind (arith, nat_tests)

-- where no later call fails, the next one does not
pub fails_next-no_more : (fails : List ℕ) (calls : ℕ) → IsTrue (fails_no_more fails calls) → fails_next fails calls ≡ false
fails_next-no_more [] calls h = refl
fails_next-no_more (x ∷ xs) calls h =
    let parts = and_parts (leb x calls) (fails_no_more xs calls) h in
    let here : x ≤ calls = leb-true x calls parts.0 in
    let rest : fails_next xs calls ≡ false = fails_next-no_more xs calls parts.1 in
    grind (arith, nat_tests)

-- where no later call fails, none does after one more call
pub no_more-later : (fails : List ℕ) (calls later : ℕ) → calls ≤ later → IsTrue (fails_no_more fails calls) → IsTrue (fails_no_more fails later)
no_more-later [] calls later le h = refl
no_more-later (x ∷ xs) calls later le h =
    let parts = and_parts (leb x calls) (fails_no_more xs calls) h in
    let here : x ≤ calls = leb-true x calls parts.0 in
    and_from (leb x later) (fails_no_more xs later) (le-leb x later (omega arith)) (no_more-later xs calls later le parts.1)
