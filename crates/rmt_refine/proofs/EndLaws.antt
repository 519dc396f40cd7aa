-- Where the words with which a packet leaves hold the last state of the program's run, the chip sends what the program sends.
use Rattle.std.proofs.Common.{◌≡◌, ℕ, suc, ◌+◌, ◌*◌, ◌^◌, ◌≤◌, ◌==◌, ◌++◌, Bool, true, false, cond, List, [], ◌∷◌, length, refl, sym, ap, subst, ◌∙◌, arith}
use Rattle.std.specs.Prelude.{slice_index, slice_index_or}
use Rattle.std.specs.List.{AllZip, flat_map, zip}
use Rattle.rmt_bits.specs.Bits.{bytes_of}
use Rattle.rmt_bits.specs.declared.lane.Lane.{Lane}
use Rattle.rmt_bits.specs.declared.answer.Answer.{Answer}
use Rattle.rmt_bits.specs.declared.answer.Verdict.TheVariants as verdict
use Rattle.rmt_refine.specs.Types.{Program, Header, Config, OutHeader}
use Rattle.rmt_ast.specs.Answers as plain
use Rattle.rmt_ast.specs.Control.{Run}
use Rattle.rmt_ast.specs.State.{joined}
use Rattle.rmt_config.specs.ChipRun.{Outcome, finished, header_bytes, latency_of, sent_bytes}
use Rattle.rmt_config.specs.Life.{Life, Words, key_of, lane_of}
use Rattle.rmt_config.specs.Effects.{held_by, Hold}
use Rattle.rmt_refine.specs.Places.{HeaderCarried, PlacesCarried, StandsIn}
use Rattle.rmt_refine.proofs.ReadLaws.{key_reads}

-- a field of one lane
pub lane_holds : (places : List (List Lane)) (words : Words) (s : List ℕ) (f : ℕ) (l : Lane) → StandsIn places f l → Hold places words s → lane_of words l ≡ slice_index s f
lane_holds places words s f l stands hold =
    (let e : lane_of words l ≡ lane_of words l + 2 ^ l.len * 0 = omega arith in e) ∙ ap (held_by words) (sym stands) ∙ hold f

module _ (p : Program) (c : Config) (places : List (List Lane)) (carried : PlacesCarried p places c) (words : Words) (s : List ℕ) (hold : Hold places words s) where
  -- a header with its tail
  header_same : (h : Header) (o : OutHeader) (tail : List ℕ) → HeaderCarried places h o → header_bytes words o tail ≡ plain.header_bytes p s h tail
  header_same h o tail is =
      let valid = lane_holds places words s h.valid o.valid is.valid hold in
      let key : key_of words o.pieces ≡ joined p h.fields s =
      ap (key_of words) is.pieces ∙ key_reads p places words s h.fields carried.apart.cut (λ f there. hold f) in
      ap (λ n. cond (n == 1) (bytes_of o.bytes (key_of words o.pieces) ++ tail) []) valid
      ∙ ap (λ n. cond (slice_index s h.valid == 1) (bytes_of n (key_of words o.pieces) ++ tail) []) is.bytes
      ∙ ap (λ n. cond (slice_index s h.valid == 1) (bytes_of h.bytes n ++ tail) []) key

  -- all headers, each with its tail
  headers_same : (hs : List Header) (os : List OutHeader) (chip walked : List (List ℕ)) → AllZip (HeaderCarried places) hs os → length hs ≤ length chip → length walked ≡ length hs
      → ((n : ℕ) → slice_index_or chip n [] ≡ slice_index_or walked n [])
      → flat_map (λ (x : OutHeader × List ℕ). header_bytes words x.0 x.1) (zip os chip) ≡ flat_map (λ (x : Header × List ℕ). plain.header_bytes p s x.0 x.1) (zip hs walked)
  headers_same [] [] chip walked are room long same = refl
  headers_same [] (o ∷ os) chip walked are room long same = absurd are
  headers_same (h ∷ hs) [] chip walked are room long same = absurd are
  headers_same (h ∷ hs) (o ∷ os) [] walked are room long same = absurd (omega (arith, room))
  headers_same (h ∷ hs) (o ∷ os) (t ∷ chip) [] are room long same = absurd (omega (arith, long))
  headers_same (h ∷ hs) (o ∷ os) (t ∷ chip) (w ∷ walked) are room long same =
      ap (λ (bytes : List ℕ). bytes ++ flat_map (λ (x : OutHeader × List ℕ). header_bytes words x.0 x.1) (zip os chip)) (header_same h o t are.0 ∙ ap (plain.header_bytes p s h) (same 0))
      ∙ ap (λ (bytes : List ℕ). plain.header_bytes p s h w ++ bytes) (headers_same hs os chip walked are.1 (omega (arith, room)) (omega (arith, long)) (λ n. same (suc n)))

  -- with the payload
  sent_same : (chip walked : List (List ℕ)) (payload : List ℕ) → length p.headers ≤ length chip → length walked ≡ length p.headers
      → ((n : ℕ) → slice_index_or chip n [] ≡ slice_index_or walked n []) → sent_bytes words c.headers chip payload ≡ plain.sent_bytes p s walked payload
  sent_same chip walked payload room long same = ap (λ (bytes : List ℕ). bytes ++ payload) (headers_same p.headers c.headers chip walked carried.headers room long same)

-- the same verdict and bytes
pub record SendsAs (o : Outcome) (a : Answer) : Type 0 where
  pub verdict : o.verdict ≡ a.verdict
  pub bytes : o.bytes ≡ a.bytes

either_sends : (b : Bool) (o q : Outcome) (a e : Answer) → SendsAs o a → SendsAs q e → SendsAs (cond b o q) (cond b a e)
either_sends true o q a e one two = one
either_sends false o q a e one two = two

-- what leaves
pub finished_same : (p : Program) (c : Config) (places : List (List Lane)) (chip walked : List (List ℕ)) (payload : List ℕ) (life : Life) (r : Run) → PlacesCarried p places c
    → Hold places (life.word (latency_of c.stages)) r.state → length p.headers ≤ length chip → length walked ≡ length p.headers
    → ((n : ℕ) → slice_index_or chip n [] ≡ slice_index_or walked n []) → SendsAs (finished c chip payload life) (plain.finished p walked payload r)
finished_same p c places chip walked payload life r carried hold room long same =
    let words = life.word (latency_of c.stages) in
    let dropped : Outcome = record { verdict = verdict.Dropped; bytes = []; counted = life.counted } in
    let sent : Outcome = record { verdict = verdict.Sent (lane_of words c.out_port); bytes = sent_bytes words c.headers chip payload; counted = life.counted } in
    let drop_is = lane_holds places words r.state 2 c.drop carried.drop hold in
    let port_is = lane_holds places words r.state 1 c.out_port carried.out_port hold in
    subst (λ n. SendsAs (cond (n == 1) dropped sent) (plain.finished p walked payload r)) (sym drop_is)
    (either_sends (slice_index r.state 2 == 1) dropped sent
    (record { verdict = verdict.Dropped; bytes = []; hits = r.hits })
    (record { verdict = verdict.Sent (slice_index r.state 1); bytes = plain.sent_bytes p r.state walked payload; hits = r.hits })
    (record { verdict = refl; bytes = refl })
    (record { verdict = ap verdict.Sent port_is; bytes = sent_same p c places carried words r.state hold chip walked payload room long same }))

either_counts : (b : Bool) (o q : Outcome) → o.counted ≡ q.counted → (cond b o q).counted ≡ q.counted
either_counts true o q same = same
either_counts false o q same = refl

-- what is counted, and what is hit, whether the packet is dropped or sent
pub finished_counted : (c : Config) (tails : List (List ℕ)) (payload : List ℕ) (life : Life) → (finished c tails payload life).counted ≡ life.counted
finished_counted c tails payload life =
    let words = life.word (latency_of c.stages) in
    either_counts (lane_of words c.drop == 1) (record { verdict = verdict.Dropped; bytes = []; counted = life.counted })
    (record { verdict = verdict.Sent (lane_of words c.out_port); bytes = sent_bytes words c.headers tails payload; counted = life.counted }) refl

either_hits : (b : Bool) (a e : Answer) → a.hits ≡ e.hits → (cond b a e).hits ≡ e.hits
either_hits true a e same = same
either_hits false a e same = refl

pub finished_hits : (p : Program) (tails : List (List ℕ)) (payload : List ℕ) (r : Run) → (plain.finished p tails payload r).hits ≡ r.hits
finished_hits p tails payload r =
    either_hits (slice_index r.state 2 == 1) (record { verdict = verdict.Dropped; bytes = []; hits = r.hits })
    (record { verdict = verdict.Sent (slice_index r.state 1); bytes = plain.sent_bytes p r.state tails payload; hits = r.hits }) refl
