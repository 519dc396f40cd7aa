use Rattle.std.proofs.Common.{◌≡◌, ℕ, List, ◌++◌, sym, ap, subst, ◌∙◌, append_assoc}
use Rattle.std.proofs.lemmas.List.{append-nil}
use Rattle.rmt_config.specs.LimitSteps.{Counts}
use Rattle.rmt_config.specs.Resources.{memory_sram}
use Rattle.rmt_config.specs.Types.{Memory}
use Rattle.rmt_config.proofs.limits.listing.count_sram.Goals as goal

-- the counts of a memory
counted : (memory kind : Memory) (ns listed counts : List ℕ) → memory ≡ kind → listed ≡ ns ++ memory_sram kind → Counts listed counts → Counts (ns ++ memory_sram memory) counts
counted memory kind ns listed counts is e had = subst (λ (ms : List ℕ). Counts ms counts) (e ∙ ap (λ m. ns ++ memory_sram m) (sym is)) had

pub returns-in-Without : goal.returns-in-Without
returns-in-Without c ns had = counted c.args.memory.now _ ns ns c.args.counts.now c.in-Without.is (sym (append-nil ns)) had

pub returns-in-Exact : goal.returns-in-Exact
returns-in-Exact c ns had =
    let a = c.as_slice.result.now in
    let b = c.as_slice-in-Exact.result.now in
    let d = c.as_slice-in-Exact-2.result.now in
    counted c.args.memory.now _ ns (((ns ++ a) ++ b) ++ d) c.count_blocks-in-Exact-2.new.counts c.in-Exact.is
    (ap (λ (x : List ℕ). x ++ d) (append_assoc ns a b) ∙ append_assoc ns (a ++ b) d ∙ ap (λ (x : List ℕ). ns ++ ((x ++ b) ++ d)) c.as_slice.ensures
    ∙ ap (λ (x : List ℕ). ns ++ ((c.in-Exact.keys ++ x) ++ d)) c.as_slice-in-Exact.ensures
    ∙ ap (λ (x : List ℕ). ns ++ ((c.in-Exact.keys ++ c.in-Exact.records) ++ x)) c.as_slice-in-Exact-2.ensures)
    (c.count_blocks-in-Exact-2.ensures ((ns ++ a) ++ b) (c.count_blocks-in-Exact.ensures (ns ++ a) (c.count_blocks.ensures ns had)))

pub returns-in-Ternary : goal.returns-in-Ternary
returns-in-Ternary c ns had =
    let a = c.as_slice-in-Ternary.result.now in
    let b = c.as_slice-in-Ternary-2.result.now in
    counted c.args.memory.now _ ns ((ns ++ a) ++ b) c.count_blocks-in-Ternary-2.new.counts c.in-Ternary.is
    (append_assoc ns a b ∙ ap (λ (x : List ℕ). ns ++ (x ++ b)) c.as_slice-in-Ternary.ensures ∙ ap (λ (x : List ℕ). ns ++ (c.in-Ternary.records ++ x)) c.as_slice-in-Ternary-2.ensures)
    (c.count_blocks-in-Ternary-2.ensures (ns ++ a) (c.count_blocks-in-Ternary.ensures ns had))
