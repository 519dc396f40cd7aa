use Rattle.std.proofs.Common.{◌≡◌, ◌≤◌, ◌<◌, ◌+◌, ◌++◌, ℕ, List, [], length, map, take, drop, get_or, sym, ap, subst, ◌∙◌, arith}
use Rattle.std.specs.Prelude.{slice_index}
use Rattle.std.proofs.lemmas.List.{length-append, length-map, get_or-map, take_all}
use Rattle.std.proofs.lemmas.List.Sums.{sum_by_more}
use Rattle.rmt_chip.specs.Types.{OutHeader}
use Rattle.rmt_config.specs.declared.tails.TailAt.{TailAt}
use Rattle.rmt_config.specs.Parser.{no_tail}
use Rattle.rmt_config.specs.ChipRun.{header_bytes, tail_bytes}
use Rattle.rmt_chip.specs.FrameList.{frame_at}
use Rattle.rmt_chip.specs.Leaving.{headers_sent}
use Rattle.rmt_chip.specs.Runnable.{HeaderFits}
use Rattle.rmt_chip.specs.Tails.{tails_len}
use Rattle.rmt_chip.proofs.EmitLaws.{sent_more, sent_short, header_bytes-le, length-taken}
use Rattle.rmt_chip.proofs.emit.push_headers.Goals as goal

pub loop-n-preserved : goal.loop-n-preserved
loop-n-preserved c =
    let words = λ (w : ℕ). slice_index c.args.vector.now w in
    let frame = frame_at c.args.frames.now c.args.at in
    let headers = c.args.headers.now in
    let tails = c.args.tails.now in
    let bytes : List (List ℕ) = map (tail_bytes frame) tails in
    let n = c.loop-n.n in
    let h = c.index-headers-n.result in
    let few = c.requires.few in
    let whole = c.get-tail.ensures.whole in
    let many = length-map tails (tail_bytes frame) in
    let inside : n < length headers = omega arith in
    let there : n < length bytes = omega arith in
    let t = get_or tails n no_tail in
    let place = c.get-tail.ensures.place in
    let len = c.get-tail.ensures.len in
    let tail : take c.get-tail.result.1 (drop c.get-tail.result.0 frame) ≡ get_or bytes n [] =
    ap (λ (k : ℕ). take k (drop c.get-tail.result.0 frame)) len ∙ ap (λ (k : ℕ). take t.len (drop k frame)) place
    ∙ sym (get_or-map (tail_bytes frame) tails n no_tail [] (omega arith)) in
    let put = c.push_header.ensures in
    let size = header_bytes-le words h (take c.get-tail.result.1 (drop c.get-tail.result.0 frame)) c.get-tail.result.1 (length-taken c.get-tail.result.1 (drop c.get-tail.result.0 frame)) in
    let fits : h.bytes ≤ 64 = (subst (λ (x : OutHeader). HeaderFits x) (sym c.index-headers-n.is) (c.requires.fit n h inside)).few_bytes in
    let grown = ap length put ∙ length-append c.loop-n.out (header_bytes words h (take c.get-tail.result.1 (drop c.get-tail.result.0 frame))) in
    let sum : tails_len (take (n + 1) tails) ≡ tails_len (take n tails) + t.len = sum_by_more (λ (x : TailAt). x.len) tails n no_tail (omega arith) in
    let was = c.loop-n.invariant.within in
    record {
      sent =
          put ∙ ap (λ (xs : List ℕ). xs ++ header_bytes words h (take c.get-tail.result.1 (drop c.get-tail.result.0 frame))) c.loop-n.invariant.sent
          ∙ ap (λ (x : List ℕ). headers_sent words (take n headers) (take n bytes) ++ header_bytes words h x) tail
          ∙ ap (λ (x : OutHeader). headers_sent words (take n headers) (take n bytes) ++ header_bytes words x (get_or bytes n [])) c.index-headers-n.is
          ∙ sym (sent_more words headers bytes n h inside there);
      within = omega arith;
    }

pub returns-clause-bytes : goal.returns-clause-bytes
returns-clause-bytes c =
    let words = λ (w : ℕ). slice_index c.args.vector.now w in
    let headers = c.args.headers.now in
    let bytes : List (List ℕ) = map (tail_bytes (frame_at c.args.frames.now c.args.at)) c.args.tails.now in
    let n = c.loop-n.n in
    c.loop-n.invariant.sent
    ∙ ap (λ (hs : List OutHeader). headers_sent words hs (take n bytes)) (take_all n headers (omega arith))
    ∙ sent_short words headers bytes n (omega arith)
