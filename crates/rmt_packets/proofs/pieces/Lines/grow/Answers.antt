use Rattle.std.proofs.Common.{◌≡◌, ◌+◌, ◌==◌, ◌&&◌, ◌++◌, length, take, ap, ◌∙◌, sym, arith}
use Rattle.std.specs.List.{list_all}
use Rattle.std.specs.Vec.{with_items}
use Rattle.std.proofs.lemmas.List.{length-take, with_items_is}
use Rattle.rmt_packets.specs.Pieces.{LineState, front_of}
use Rattle.rmt_packets.proofs.StandsLaws.{front_grows, grown_is}
use Rattle.rmt_packets.proofs.pieces.Lines.grow.Goals as goal

pub returns : goal.returns
returns c =
    let i = c.self.inside in
    let part = c.args.part.now in
    let more = c.min-count.result in
    let len : more ≡ length (take more part) = omega (arith, length-take more part, c.min-count.ensures) in
    let front : take (i.count + more) c.put_at.new.bytes ≡ front_of (take i.count i.room.items ++ part) =
    ap (λ n. take (i.count + n) c.put_at.new.bytes) len ∙ c.put_at.ensures ∙ ap (λ xs. take i.count xs ++ take more part) c.as_mut_slice.ensures.value
    ∙ front_grows i.room.items part i.count more c.self.invariant.0 c.self.invariant.1 c.min-count.ensures in
    let blank : c.stays_blank-is_blank.result ≡ (i.is_blank && list_all (λ b. b == 32) part) =
    c.stays_blank-is_blank.ensures ∙ ap (λ s. s.is_blank && list_all (λ b. b == 32) part) (sym c.self.view_is) in
    let was : LineState = record { front = take i.count i.room.items; is_blank = i.is_blank; number = i.number; is_ended = i.is_ended; is_ready = i.is_ready; taken = i.taken } in
    let all : (with_items i.room c.put_at.new.bytes).items ≡ c.put_at.new.bytes = with_items_is i.room c.put_at.new.bytes (omega (arith, c.put_at.auto.bytes, ap length c.as_mut_slice.ensures.value, i.room.ok.0)) in
    rw (← c.self.view_is) (grown_is was part (take (i.count + more) (with_items i.room c.put_at.new.bytes).items) c.stays_blank-is_blank.result (ap (take (i.count + more)) all ∙ front) blank)
