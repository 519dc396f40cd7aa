-- Each piece that is taken was the front of what was left.
use Rattle.std.proofs.Common.{◌≡◌, ℕ, ◌-◌, ◌≤◌, ◌++◌, List, length, take, drop, sym, ap, ◌∙◌, refl, append_assoc, take-append-drop, take_all, length-drop, arith, subst}
use Rattle.std.specs.Prelude.{IsTrue}
use Rattle.rmt_io.proofs.OutsideLaws.{only_printed_trans}
use Rattle.rmt_runs.proofs.printing.print.Goals as goal

one_more : (text gained rest : List ℕ) (taken n : ℕ) → n ≡ length rest → text ≡ gained ++ rest → text ≡ (gained ++ take taken rest) ++ take (n - taken) (drop taken rest)
one_more text gained rest taken n size is =
    let few : length (drop taken rest) ≤ n - taken = omega (arith, length-drop taken rest) in
    let whole : take (n - taken) (drop taken rest) ≡ drop taken rest = take_all (n - taken) (drop taken rest) few in
    let parts : take taken rest ++ drop taken rest ≡ rest = take-append-drop taken rest in
    rw whole (is ∙ (ap (λ l. gained ++ l) (sym parts) ∙ sym (append_assoc gained (take taken rest) (drop taken rest))))

pub loop-rest-preserved : goal.loop-rest-preserved
loop-rest-preserved g c =
    let piece = take c.in-Ok.taken c.loop-rest.rest.now in record {
      gained = c.loop-rest.invariant.gained ++ piece;
      text = one_more c.args.text.now c.loop-rest.invariant.gained c.loop-rest.rest.now c.in-Ok.taken (length c.loop-rest.rest.now) refl c.loop-rest.invariant.text;
      bytes = λ t. c.in-Ok.ensures.appended (subst IsTrue (sym c.loop-rest.invariant.printed.tells) t) ∙ (ap (λ l. l ++ piece) (c.loop-rest.invariant.bytes t) ∙ append_assoc (g.O.Sink.state c.args.out.now).bytes c.loop-rest.invariant.gained piece);
      printed = only_printed_trans c.loop-rest.invariant.printed c.write.ensures.only_printed;
    }
