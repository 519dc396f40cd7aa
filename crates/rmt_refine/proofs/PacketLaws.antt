-- The law for one packet: where its life through the stages ends as the program's run does, the chip answers it as the program does.
use Rattle.std.proofs.Common.{◌≡◌, ℕ, ◌<◌, ◌==◌, List, drop, map, refl, sym, ap, ◌∙◌, subst}
use Rattle.std.specs.Prelude.{All, count_by}
use Rattle.rmt_bits.specs.Packet.{Packet}
use Rattle.rmt_refine.specs.Types.{Program, Config}
use Rattle.rmt_ast.specs.declared.entry.Entry.{Entry}
use Rattle.rmt_ast.specs.Answers as plain
use Rattle.rmt_ast.specs.Answers.{answer_of, answered}
use Rattle.rmt_ast.specs.Control.{run}
use Rattle.rmt_ast.specs.State.{IsState}
use Rattle.rmt_ast.specs.Walk as walks
use Rattle.rmt_ast.specs.Walk.{walk}
use Rattle.rmt_ast.specs.WellFormed.{IsProgram}
use Rattle.rmt_config.specs.Agreement.{AgreesWith, EndsAs}
use Rattle.rmt_config.specs.ChipRun.{finished, latency_of, outcome_from, outcome_of, tail_bytes}
use Rattle.rmt_config.specs.Life.{Counted, Life, Look, life_of}
use Rattle.rmt_config.specs.Parser.{Parse, Reached, Short, Reject, Accept, parse, put}
use Rattle.rmt_bits.specs.declared.lane.Lane.{Lane}
use Rattle.rmt_config.specs.Effects.{Hold}
use Rattle.rmt_refine.specs.CountedHits.{counted_hits}
use Rattle.rmt_refine.specs.Places.{PlacesCarried}
use Rattle.rmt_refine.specs.Refined.{AnswersAs}
use Rattle.rmt_refine.proofs.BeginLaws.{Begins, begins, words_of_vector}
use Rattle.rmt_refine.proofs.EndLaws.{SendsAs, finished_counted, finished_hits, finished_same}

-- A packet's life ends as the program's run over a state: the words with which it leaves hold the last state, and the counted hits are counted.
pub record EndsAsRun (p : Program) (lists : List (List Entry)) (places : List (List Lane)) (c : Config) (s : List ℕ) (life : Life) : Type 0 where
  pub hold : Hold places (life.word (latency_of c.stages)) (run p lists s).state
  pub counted : (n : ℕ) → count_by (λ (x : Counted). x.number == n) life.counted ≡ count_by (λ m. m == n) (counted_hits p lists (run p lists s).hits)

module _ (p : Program) (lists : List (List Entry)) (places : List (List Lane)) (c : Config) (look : Look) (program : IsProgram p) (carried : PlacesCarried p places c)
    (through_stages : (s vector : List ℕ) → IsState p s → Hold places (words_of_vector vector) s → EndsAsRun p lists places c s (life_of look c.stages vector)) where
  accepted_answers : (packet : Packet) (r : Reached) (w : walks.Reached) → Begins p places c packet.port packet.frame r w
      → AnswersAs p lists (outcome_from look c packet (Accept r)) (answered p lists packet.frame (walks.Accept w))
  accepted_answers packet r w starts =
      let vector = put r.vector c.in_port packet.port in
      let life = life_of look c.stages vector in
      let tails = map (tail_bytes packet.frame) r.tails in
      let payload = drop r.at packet.frame in
      let ends = through_stages w.state vector starts.state starts.hold in
      let moved : drop r.at packet.frame ≡ drop w.at packet.frame = ap (λ n. drop n packet.frame) starts.at in
      let sends : SendsAs (finished c tails payload life) (plain.finished p w.tails (drop w.at packet.frame) (run p lists w.state)) =
      subst (λ bytes. SendsAs (finished c tails payload life) (plain.finished p w.tails bytes (run p lists w.state))) moved
      (finished_same p c places tails w.tails payload life (run p lists w.state) carried ends.hold starts.room starts.tails_long starts.tails) in
      record {
        verdict = sends.verdict;
        bytes = sends.bytes;
        counted = λ n.
            ap (count_by (λ (x : Counted). x.number == n)) (finished_counted c tails payload life)
            ∙ ends.counted n
            ∙ sym (ap (λ hits. count_by (λ m. m == n) (counted_hits p lists hits)) (finished_hits p w.tails (drop w.at packet.frame) (run p lists w.state)));
      }

  answers_by : (packet : Packet) → packet.port < 512 → (x : Parse) → parse c.parser packet.frame ≡ x → EndsAs places packet.frame x (walk p packet.port packet.frame)
      → AnswersAs p lists (outcome_from look c packet x) (answer_of p lists packet)
  answers_by packet port Short e ends =
      subst (λ y. AnswersAs p lists (outcome_from look c packet Short) (answered p lists packet.frame y)) (sym ends) (record { verdict = refl; bytes = refl; counted = λ n. refl })
  answers_by packet port Reject e ends =
      subst (λ y. AnswersAs p lists (outcome_from look c packet Reject) (answered p lists packet.frame y)) (sym ends) (record { verdict = refl; bytes = refl; counted = λ n. refl })
  answers_by packet port (Accept r) e ends =
      subst (λ y. AnswersAs p lists (outcome_from look c packet (Accept r)) (answered p lists packet.frame y)) (sym ends.1)
      (accepted_answers packet r ends.0 (begins p places c packet.port packet.frame r ends.0 program carried port e ends.1 ends.2))

  -- so a packet is answered as the program answers it
  pub packet_law : AgreesWith c.parser places p → (packet : Packet) → All (λ b. b < 256) packet.frame → packet.port < 512 → AnswersAs p lists (outcome_of look c packet) (answer_of p lists packet)
  packet_law agrees packet bytes port = answers_by packet port (parse c.parser packet.frame) refl (agrees packet.port packet.frame bytes)
