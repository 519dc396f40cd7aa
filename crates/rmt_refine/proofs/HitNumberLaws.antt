-- The hits of an answer are numbers of entries.
use Rattle.std.proofs.Common.{◌≡◌, ℕ, ◌+◌, List, [], ◌∷◌, Option, Some, None, length, replicate, refl, arith}
use Rattle.std.specs.Prelude.{All, Contains, option_map, slice_get, slice_index, unwrap_or, ◌==◌}
use Rattle.std.proofs.lemmas.Bool.{cond_both}
use Rattle.std.proofs.lemmas.List.Elements.{All-append, All-cons, All-nil}
use Rattle.rmt_bits.specs.Packet.{Packet}
use Rattle.rmt_bits.specs.declared.answer.Answer.{Answer}
use Rattle.rmt_refine.specs.Types.{Node, Program, Table, What}
use Rattle.rmt_ast.specs.declared.program.What.TheVariants.{Apply, Gate}
use Rattle.rmt_ast.specs.declared.entry.Entry.{Entry}
use Rattle.rmt_ast.specs.Answers.{answer_of, answered}
use Rattle.rmt_ast.specs.Control.{Run, applied_table, done_by, run, run_from, runs}
use Rattle.rmt_ast.specs.Lookup.{hit_of, hits}
use Rattle.rmt_ast.specs.Walk.{Accept, Reject, Short, Walk, walk}
use Rattle.rmt_config.specs.Commits.{all_entries}
use Rattle.rmt_refine.proofs.EntryLaws.{listed_in}
use Rattle.rmt_ast.proofs.EntryLaws.{hit_among}

module _ (p : Program) (lists : List (List Entry)) where
  -- the number of an entry
  abbrev pub IsNumber : ℕ → Type 0
  IsNumber n = (e : Entry) × Contains (all_entries lists) e × (e.number ≡ n)

  in_node : (n : ℕ) (e : Entry) → Contains (unwrap_or (slice_get lists n) []) e → IsNumber e.number
  in_node n e there = by (slice_get lists n) refl there
    where
      by : (o : Option (List Entry)) → slice_get lists n ≡ o → Contains (unwrap_or o []) e → IsNumber e.number
      by None at h = absurd (let lt = h.1 in omega (arith, lt))
      by (Some es) at h = (e, listed_in lists n es e at h, refl)

  applied_hits : (n : ℕ) (t : Table) (o : Option Entry) (r : Run) → ((e : Entry) → o ≡ Some e → IsNumber e.number) → All IsNumber r.hits → All IsNumber (applied_table p n t o r).hits
  applied_hits n t None r there all = all
  applied_hits n t (Some e) r there all = All-append IsNumber r.hits (e.number ∷ []) all (All-cons IsNumber e.number [] (there e refl) (All-nil IsNumber))

  table_hits : (n : ℕ) (o : Option Table) (r : Run) → All IsNumber r.hits
      → All IsNumber (unwrap_or (option_map (λ (t : Table). applied_table p n t (hit_of t.kind t.key (unwrap_or (slice_get lists n) []) r.state) r) o) r).hits
  table_hits n None r all = all
  table_hits n (Some t) r all =
      let es : List Entry = unwrap_or (slice_get lists n) [] in
      applied_hits n t (hit_of t.kind t.key es r.state) r (λ e same. in_node n e (hit_among t.kind t.key es r.state e same)) all

  done_hits : (n : ℕ) (what : What) (r : Run) → All IsNumber r.hits → All IsNumber (done_by p (unwrap_or (slice_get lists n) []) n what r).hits
  done_hits n (Apply t) r all = table_hits n (slice_get p.tables t) r all
  done_hits n (Gate f test) r all = all

  run_hits : (n : ℕ) (nodes : List Node) (r : Run) → All IsNumber r.hits → All IsNumber (run_from p lists n nodes r).hits
  run_hits n [] r all = all
  run_hits n (node ∷ nodes) r all =
      run_hits (n + 1) nodes _
      (cond_both (runs node.guard r.outcomes) _ r (λ (q : Run). All IsNumber q.hits) (λ it_runs. done_hits n node.what r all) (λ it_rests. all))

  answered_hits : (frame : List ℕ) (w : Walk) → All IsNumber (answered p lists frame w).hits
  answered_hits frame Short = All-nil IsNumber
  answered_hits frame Reject = All-nil IsNumber
  answered_hits frame (Accept r) =
      let all = run_hits 0 p.nodes (record { state = r.state; outcomes = replicate (length p.nodes) 0; hits = [] }) (All-nil IsNumber) in
      cond_both (slice_index (run p lists r.state).state 2 == 1) _ _ (λ (a : Answer). All IsNumber a.hits) (λ dropped. all) (λ sent. all)

  -- each hit of a packet is of an entry that it met
  pub hits_are_numbers : (packet : Packet) → All IsNumber (answer_of p lists packet).hits
  hits_are_numbers packet = answered_hits packet.frame (walk p packet.port packet.frame)
