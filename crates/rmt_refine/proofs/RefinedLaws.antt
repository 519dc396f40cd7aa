-- The law for one packet: where a configuration carries a program, what becomes of a packet is what the program answers.
use Rattle.std.proofs.Common.{◌≡◌, ℕ, ◌<◌, ◌≤◌, List, [], length, replicate, refl, subst, arith}
use Rattle.std.specs.Prelude.{All, slice_index}
use Rattle.std.proofs.lemmas.List.{get_or-replicate, length-replicate}
use Rattle.rmt_bits.specs.Packet.{Packet}
use Rattle.rmt_refine.specs.Types.{Program, Config}
use Rattle.rmt_ast.specs.declared.entry.Entry.{Entry}
use Rattle.rmt_ast.specs.Answers.{answer_of}
use Rattle.rmt_ast.specs.EntryLists.{AreEntries}
use Rattle.rmt_ast.specs.State.{IsState}
use Rattle.rmt_ast.specs.WellFormed.{IsProgram}
use Rattle.rmt_config.specs.ChipRun.{outcome_of, own_look}
use Rattle.rmt_config.specs.Life.{Life, life_of}
use Rattle.rmt_refine.specs.declared.map.Map.{Map}
use Rattle.rmt_refine.specs.View.{View, look_in, own_view}
use Rattle.rmt_refine.specs.Carries.{Carries, CarriesIn}
use Rattle.rmt_config.specs.Effects.{Hold}
use Rattle.rmt_refine.specs.Refined.{AnswersAs}
use Rattle.rmt_refine.proofs.BeginLaws.{words_of_vector}
use Rattle.rmt_refine.proofs.CountLaws.{counted_law}
use Rattle.rmt_refine.proofs.PacketLaws.{EndsAsRun, packet_law}
use Rattle.rmt_refine.proofs.ViewLaws.{own_look_law}
use Rattle.rmt_refine.proofs.WordLaws.{IsStart, all_read, words_law}

module _ (p : Program) (lists : List (List Entry)) (m : Map) (c : Config) (v : View) (program : IsProgram p) (entries : AreEntries p lists) (carries : CarriesIn p lists m c v) where
  -- a life that begins with words that hold a state ends as the run over the state
  through_stages : (s vector : List ℕ) → IsState p s → Hold m.places (words_of_vector vector) s → EndsAsRun p lists m.places c s (life_of (look_in c v) c.stages vector)
  through_stages s vector state hold =
      let first : Life = record { word = λ age w. slice_index vector w; outcomes = replicate 256 0; counted = [] } in
      let few = program.counts.nodes in
      let room : length p.nodes ≤ length first.outcomes = (let long = length-replicate {A = ℕ} 256 0 in omega (arith, long, few)) in
      let none : (n : ℕ) → n < length p.nodes → slice_index first.outcomes n ≡ 0 = λ n lt. get_or-replicate 256 n 0 0 (omega (arith, lt, few)) in
      let start : IsStart p lists m c v s program entries state carries first = record { room = room; none = none; holds = λ age. hold } in
      record {
        hold = words_law p lists m c v s program entries state carries first start;
        counted = counted_law p lists m c v s program entries state carries first room none refl (all_read p lists m c v s program entries state carries first start);
      }

  -- One packet is answered as the program answers it.
  pub one_packet : (packet : Packet) → All (λ b. b < 256) packet.frame → packet.port < 512 → AnswersAs p lists (outcome_of (look_in c v) c packet) (answer_of p lists packet)
  one_packet packet bytes port = packet_law p lists m.places c (look_in c v) program carries.places through_stages carries.parser packet bytes port

-- ---- in a configuration's own cells

own_look_is : (c : Config) → look_in c (own_view c) ≡ own_look c
own_look_is c = λ i k place key. own_look_law c k place key i

-- a configuration that carries a program carries it in its own view
pub in_own_view : (p : Program) (lists : List (List Entry)) (m : Map) (c : Config) → Carries p lists m c → CarriesIn p lists m c (own_view c)
in_own_view p lists m c carries = record { places = carries.places; parser = carries.parser; units = carries.units; cells = carries.cells; code = carries.code; edges = carries.edges }

-- One packet is answered as the program answers it, by the chip itself.
pub own_packet : (p : Program) (lists : List (List Entry)) (m : Map) (c : Config) (packet : Packet) → IsProgram p → AreEntries p lists → Carries p lists m c
    → All (λ b. b < 256) packet.frame → packet.port < 512 → AnswersAs p lists (outcome_of (own_look c) c packet) (answer_of p lists packet)
own_packet p lists m c packet program entries carries bytes port =
    subst (λ look. AnswersAs p lists (outcome_of look c packet) (answer_of p lists packet)) (own_look_is c)
    (one_packet p lists m c (own_view c) program entries (in_own_view p lists m c carries) packet bytes port)
