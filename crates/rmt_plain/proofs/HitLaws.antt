-- The hits of an answer are numbers of entries.
use Rattle.std.proofs.Common.{◌≡◌, ℕ, zero, suc, ◌+◌, List, [], ◌∷◌, Option, Some, None, length, replicate, refl, ap, subst, arith}
use Rattle.std.specs.Prelude.{All, Contains, slice_get, slice_index, unwrap_or, option_map, ◌==◌}
use Rattle.std.proofs.lemmas.Bool.{cond_both}
use Rattle.std.proofs.lemmas.List.Elements.{All-nil, All-cons, All-append, All-contains, Contains-append_left, Contains-append_right}
use Rattle.rmt_bits.specs.Packet.{Packet}
use Rattle.rmt_bits.specs.Counts.{Hit}
use Rattle.rmt_bits.specs.declared.answer.Answer.{Answer}
use Rattle.rmt_bits.proofs.MemberLaws.{Contains-map, Contains-unmap}
use Rattle.rmt_ast.specs.declared.program.Node.{Node}
use Rattle.rmt_ast.specs.declared.program.Program.{Program}
use Rattle.rmt_ast.specs.declared.program.Table.{Table}
use Rattle.rmt_ast.specs.declared.program.What.{What}
use Rattle.rmt_ast.specs.declared.program.What.TheVariants.{Apply, Gate}
use Rattle.rmt_ast.specs.declared.entry.Entry.{Entry}
use Rattle.rmt_ast.specs.Answers.{answer_of, answered, entry_numbers, hits_of}
use Rattle.rmt_ast.specs.Control.{Run, applied_table, done_by, run, run_from, runs}
use Rattle.rmt_ast.specs.Lookup.{hit_of}
use Rattle.rmt_ast.specs.Walk.{Accept, Reject, Short, Walk, walk}
use Rattle.rmt_plain.specs.Stands.{numbers_in}
use Rattle.rmt_ast.proofs.EntryLaws.{hit_among}

-- an entry of a node has a number of the lists
number_among : (lists : List (List Entry)) (n : ℕ) (e : Entry) → Contains (unwrap_or (slice_get lists n) []) e → Contains (numbers_in lists) e.number
number_among [] n e there = absurd (let lt = there.1 in omega (arith, lt))
number_among (es ∷ lists) zero e there = Contains-append_left (entry_numbers es) (numbers_in lists) e.number (Contains-map (λ (x : Entry). x.number) es e there)
number_among (es ∷ lists) (suc n) e there = Contains-append_right (entry_numbers es) (numbers_in lists) e.number (number_among lists n e there)

module _ (p : Program) (lists : List (List Entry)) where
  -- all are numbers of entries
  abbrev AreNumbers : List ℕ → Type 0
  AreNumbers ns = All (Contains (numbers_in lists)) ns

  applied_hits : (n : ℕ) (t : Table) (o : Option Entry) (r : Run) → ((e : Entry) → o ≡ Some e → Contains (numbers_in lists) e.number) → AreNumbers r.hits → AreNumbers (applied_table p n t o r).hits
  applied_hits n t None r there all = all
  applied_hits n t (Some e) r there all =
      All-append (Contains (numbers_in lists)) r.hits (e.number ∷ []) all (All-cons (Contains (numbers_in lists)) e.number [] (there e refl) (All-nil (Contains (numbers_in lists))))

  table_hits : (n : ℕ) (o : Option Table) (r : Run) → AreNumbers r.hits
      → AreNumbers (unwrap_or (option_map (λ (t : Table). applied_table p n t (hit_of t.kind t.key (unwrap_or (slice_get lists n) []) r.state) r) o) r).hits
  table_hits n None r all = all
  table_hits n (Some t) r all =
      let es : List Entry = unwrap_or (slice_get lists n) [] in
      applied_hits n t (hit_of t.kind t.key es r.state) r (λ e same. number_among lists n e (hit_among t.kind t.key es r.state e same)) all

  done_hits : (n : ℕ) (what : What) (r : Run) → AreNumbers r.hits → AreNumbers (done_by p (unwrap_or (slice_get lists n) []) n what r).hits
  done_hits n (Apply t) r all = table_hits n (slice_get p.tables t) r all
  done_hits n (Gate f test) r all = all

  run_hits : (n : ℕ) (nodes : List Node) (r : Run) → AreNumbers r.hits → AreNumbers (run_from p lists n nodes r).hits
  run_hits n [] r all = all
  run_hits n (node ∷ nodes) r all =
      run_hits (n + 1) nodes _
      (cond_both (runs node.guard r.outcomes) _ r (λ (q : Run). AreNumbers q.hits) (λ it_runs. done_hits n node.what r all) (λ it_rests. all))

  answered_hits : (frame : List ℕ) (w : Walk) → AreNumbers (answered p lists frame w).hits
  answered_hits frame Short = All-nil (Contains (numbers_in lists))
  answered_hits frame Reject = All-nil (Contains (numbers_in lists))
  answered_hits frame (Accept r) =
      let all = run_hits 0 p.nodes (record { state = r.state; outcomes = replicate (length p.nodes) 0; hits = [] }) (All-nil (Contains (numbers_in lists))) in
      cond_both (slice_index (run p lists r.state).state 2 == 1) _ _ (λ (a : Answer). AreNumbers a.hits) (λ dropped. all) (λ sent. all)

  -- so each hit of a packet is of an entry that it met
  pub hits_are_numbers : (packet : Packet) (h : Hit) → Contains (hits_of p lists packet) h → Contains (numbers_in lists) h.number
  hits_are_numbers packet h there =
      let hit : ℕ → Hit = λ n. record { number = n; bytes = length packet.frame } in
      let from = Contains-unmap hit (answer_of p lists packet).hits h there in
      subst (Contains (numbers_in lists)) (ap (λ (x : Hit). x.number) from.2)
      (All-contains (Contains (numbers_in lists)) (answer_of p lists packet).hits from.0 (answered_hits packet.frame (walk p packet.port packet.frame)) from.1)
