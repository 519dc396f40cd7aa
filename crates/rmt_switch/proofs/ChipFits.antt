-- What the chip sends fits an item, and goes to a port below 512.
use Rattle.std.proofs.Common.{◌≡◌, ℕ, ◌+◌, ◌*◌, ◌<◌, ◌≤◌, ◌^◌, List, [], ◌∷◌, Bool, cond, true, false, eqb, map, length, drop, ap, subst, arith}
use Rattle.std.specs.Prelude.{All}
use Rattle.std.proofs.lemmas.List.{length-append, length-drop}
use Rattle.std.proofs.lemmas.List.Elements.{All-head, All-tail}
use Rattle.std.proofs.lemmas.List.Sums.{sum_by-cons}
use Rattle.rmt_bits.proofs.BitLaws.{slice-lt}
use Rattle.rmt_bits.specs.Packet.{Packet}
use Rattle.rmt_bits.specs.declared.answer.Verdict.{Verdict}
use Rattle.rmt_bits.specs.declared.answer.Verdict.TheVariants as verdict
use Rattle.rmt_config.specs.declared.config.Config.{Config}
use Rattle.rmt_config.specs.declared.config.OutHeader.{OutHeader}
use Rattle.rmt_config.specs.declared.tails.TailAt.{TailAt}
use Rattle.rmt_config.specs.Parser.{Parse, Short, Reject, Accept, parse, put}
use Rattle.rmt_config.specs.Life.{Life, Look, Words, lane_of, life_of}
use Rattle.rmt_config.specs.ChipRun.{Outcome, finished, header_bytes, latency_of, outcome_from, outcome_of, sent_bytes, tail_bytes}
use Rattle.rmt_chip.specs.Leaving.{headers_sent}
use Rattle.rmt_chip.specs.Runnable.{HeaderFits, IsRunnable}
use Rattle.rmt_chip.specs.Tails.{tails_len}
use Rattle.rmt_chip.proofs.EmitLaws.{header_bytes-le, length-taken}
use Rattle.rmt_chip.proofs.TailLaws.{EndsWithin, parse_within}
use Rattle.rmt_switch.specs.Clocked.{Fits}

-- the headers with their tails
headers_few : (words : Words) (frame : List ℕ) (hs : List OutHeader) (ts : List TailAt) → All HeaderFits hs → length (headers_sent words hs (map (tail_bytes frame) ts)) ≤ 64 * length hs + tails_len ts
headers_few words frame [] ts fit = omega arith
headers_few words frame (h ∷ hs) [] fit = omega arith
headers_few words frame (h ∷ hs) (t ∷ ts) fit =
    let here = header_bytes-le words h (tail_bytes frame t) t.len (length-taken t.len (drop t.place frame)) in
    let rest = headers_few words frame hs ts (All-tail HeaderFits h hs fit) in
    let few = (All-head HeaderFits h hs fit).few_bytes in
    let sum = sum_by-cons (λ (x : TailAt). x.len) t ts in
    let both = length-append (header_bytes words h (tail_bytes frame t)) (headers_sent words hs (map (tail_bytes frame) ts)) in
    omega (arith, here, rest, few, sum, both)

module _ (c : Config) (runs : IsRunnable c) (frame : List ℕ) (short : length frame ≤ 9216) where
  sent_few : (words : Words) (ts : List TailAt) (at : ℕ) → tails_len ts ≤ at → at ≤ length frame → length (sent_bytes words c.headers (map (tail_bytes frame) ts) (drop at frame)) ≤ 13312
  sent_few words ts at behind within =
      let headers = headers_few words frame c.headers ts runs.headers in
      let both = length-append (headers_sent words c.headers (map (tail_bytes frame) ts)) (drop at frame) in
      let left = length-drop at frame in
      let few = runs.few_headers in
      omega (arith, headers, both, left, few, behind, within, short)

  port_below : (words : Words) → lane_of words c.out_port < 512
  port_below words =
      let below = slice-lt (words c.out_port.word) c.out_port.low c.out_port.len in
      let bits : 2 ^ c.out_port.len ≡ 512 = ap (λ (n : ℕ). 2 ^ n) runs.out_bits in
      omega (arith, below, bits)

  finished_fits : (ts : List TailAt) (at : ℕ) → tails_len ts ≤ at → at ≤ length frame → (life : Life) (port : ℕ) → (finished c (map (tail_bytes frame) ts) (drop at frame) life).verdict ≡ verdict.Sent port
      → Fits port (finished c (map (tail_bytes frame) ts) (drop at frame) life).bytes
  finished_fits ts at behind within life port e = tested (eqb (lane_of words c.drop) 1) e
    where
      words : Words
      words = life.word (latency_of c.stages)

      ends : Bool → Outcome
      ends b = cond b (record { verdict = verdict.Dropped; bytes = []; counted = life.counted })
          (record { verdict = verdict.Sent (lane_of words c.out_port); bytes = sent_bytes words c.headers (map (tail_bytes frame) ts) (drop at frame); counted = life.counted })

      tested : (b : Bool) → (ends b).verdict ≡ verdict.Sent port → Fits port (ends b).bytes
      tested true h = absurd (cc)
      tested false h =
          let same : lane_of words c.out_port ≡ port = ap port_of h in
          record { port_below = subst (λ n. n < 512) same (port_below words); few = sent_few words ts at behind within }
        where
          port_of : Verdict → ℕ
          port_of verdict.Short = 0
          port_of verdict.Reject = 0
          port_of verdict.Dropped = 0
          port_of (verdict.Sent p) = p

-- what became of a packet that was sent
pub outcome_fits : (look : Look) (c : Config) → IsRunnable c → (packet : Packet) → length packet.frame ≤ 9216 → (port : ℕ) → (outcome_of look c packet).verdict ≡ verdict.Sent port → Fits port (outcome_of look c packet).bytes
outcome_fits look c runs packet short port e = by_parse (parse c.parser packet.frame) (parse_within c.parser runs.parser packet.frame) e
  where
    by_parse : (p : Parse) → EndsWithin (length packet.frame) p → (outcome_from look c packet p).verdict ≡ verdict.Sent port → Fits port (outcome_from look c packet p).bytes
    by_parse Short within h = absurd (cc)
    by_parse Reject within h = absurd (cc)
    by_parse (Accept r) within h =
        finished_fits c runs packet.frame short r.tails r.at within.tails within.within (life_of look c.stages (put r.vector c.in_port packet.port)) port h
