-- A list of packets alone has one run, whose inputs are those of a list of packets; and the writes of a commit are of different cells.
use Rattle.std.proofs.Common.{◌≡◌, ℕ, zero, suc, ◌+◌, ◌-◌, List, [], ◌∷◌, ◌++◌, map, replicate, Some, None, refl, ap, ◌∙◌, subst, arith, true}
use Rattle.std.specs.Prelude.{fold}
use Rattle.std.proofs.lemmas.Bool.Decides.{nat_tests}
use Rattle.rmt_bits.specs.Packet.{Packet}
use Rattle.rmt_ast.specs.declared.entry.Entry.{Entry}
use Rattle.rmt_ast.specs.declared.names.Names.{Names}
use Rattle.rmt_ast.specs.Changes.{at_first}
use Rattle.rmt_ast.specs.Events.{Arrives}
use Rattle.rmt_config.specs.Types.{Config}
use Rattle.rmt_config.specs.ChipRun.{inputs_of, latency_of}
use Rattle.rmt_config.specs.RunCells.{own_cells}
use Rattle.rmt_config.specs.RunInputs.{Enters, Idle, Input, input_of}
use Rattle.rmt_config.specs.Commits.{RunState, RunsFrom, RunsTo, arrives, behind_packet, ends, writes_before}
use Rattle.rmt_config.specs.declared.cell_write.CellWrite.{CellWrite}

module _ (c : Config) (names : Names) where
  -- behind packets, one a cycle
  abbrev behind_all : RunState → List Packet → RunState
  behind_all r packets = fold (λ s (x : Packet). behind_packet c s) r packets

  abbrev inputs_from : RunState → List Packet → List Input
  inputs_from r packets = map Enters packets ++ replicate ((behind_all r packets).all_gone - (behind_all r packets).cycle) Idle

  one_from : (r : RunState) (packets : List Packet) (inputs : List Input) → RunsFrom c names r (map Arrives packets) inputs → inputs ≡ inputs_from r packets
  one_from r [] inputs (ends s) = refl
  one_from r (x ∷ xs) inputs (arrives s y events rest h) = ap (λ is. Enters x ∷ is) (one_from (behind_packet c r) xs rest h)

  some_from : (r : RunState) (packets : List Packet) → RunsFrom c names r (map Arrives packets) (inputs_from r packets)
  some_from r [] = ends r
  some_from r (x ∷ xs) = arrives r x (map Arrives xs) (inputs_from (behind_packet c r) xs) (some_from (behind_packet c r) xs)

  -- the last packet has the latency to go
  last_goes : (r : RunState) (packets : List Packet) → r.all_gone ≡ r.cycle + latency_of c.stages → (behind_all r packets).all_gone - (behind_all r packets).cycle ≡ latency_of c.stages
  last_goes r [] h = omega (arith, h)
  last_goes r (x ∷ xs) h = last_goes (behind_packet c r) xs (omega arith)

  as_inputs : (packets : List Packet) (n : ℕ) → map Enters packets ++ replicate n Idle ≡ map input_of (map Some packets ++ replicate n None)
  as_inputs [] zero = refl
  as_inputs [] (suc n) = ap (λ is. Idle ∷ is) (as_inputs [] n)
  as_inputs (x ∷ xs) n = ap (λ is. Enters x ∷ is) (as_inputs xs n)

  abbrev begin : List (List Entry) → RunState
  begin lists = record { cells = own_cells c; entries = at_first lists; cycle = 0; older_gone = 0; all_gone = 0 }

  from_begin : (lists : List (List Entry)) (packets : List Packet) → inputs_from (begin lists) packets ≡ map input_of (inputs_of c packets)
  from_begin lists [] = refl
  from_begin lists (x ∷ xs) =
      ap (λ n. Enters x ∷ (map Enters xs ++ replicate n Idle)) (last_goes (behind_packet c (begin lists)) xs (omega arith)) ∙ as_inputs (x ∷ xs) (latency_of c.stages)

  -- each run of the list has these inputs, and there is one
  pub one_run : (lists : List (List Entry)) (packets : List Packet) (inputs : List Input) → RunsTo c names lists (map Arrives packets) inputs → inputs ≡ map input_of (inputs_of c packets)
  one_run lists packets inputs h = one_from (begin lists) packets inputs h ∙ from_begin lists packets

  pub some_run : (lists : List (List Entry)) (packets : List Packet) → RunsTo c names lists (map Arrives packets) (map input_of (inputs_of c packets))
  some_run lists packets = subst (RunsTo c names lists (map Arrives packets)) (from_begin lists packets) (some_from (begin lists) packets)

-- two writes, one before the other, are of two cells
pub writes_apart : (w x : CellWrite) → writes_before w x ≡ true → w.stage ≡ x.stage → w.unit ≡ x.unit → w.cell ≡ x.cell → ⊥
writes_apart w x before stage place cell = grind (arith, nat_tests, before, stage, place, cell)
