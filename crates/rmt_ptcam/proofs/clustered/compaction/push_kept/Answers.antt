use Rattle.std.proofs.Common.{◌≡◌, ◌<◌, ◌≤◌, Bool, List, length, map, take, Option, Some, ap, sym, subst, ◌∙◌, refl, arith}
use Rattle.std.specs.Prelude.{slice_get}
use Rattle.std.specs.List.{filter}
use Rattle.rmt_ptcam.specs.Types.{ParserEntry, TailOf}
use Rattle.rmt_config.specs.Parser.{tail_of}
use Rattle.rmt_ptcam.specs.Joining.{Row, rows_of}
use Rattle.rmt_ptcam.specs.Clustering.{renamed}
use Rattle.rmt_ptcam.proofs.AddingLaws.{adds_at, all_rows, added_own, added_not, few_own, length_added, row_of}
use Rattle.rmt_ptcam.proofs.clustered.compaction.push_kept.Goals.{then-is_among+in_ok-entry+in_ok-push_row, else-is_among}
use Rattle.rmt_ptcam.proofs.clustered.compaction.push_kept.Goals as goal
use Rattle.rmt_bits.proofs.ListLaws.{slice_get-seen}
use Rattle.rmt_bits.specs.Members.{is_among}

pub push_row-requires : goal.push_row-requires
push_row-requires c =
    let parser = c.args.parser.now in
    let rename = renamed (is_among c.args.met.now) in
    let kept : Row → Bool = λ x. is_among c.args.met.now x.entry.state in
    let long = length_added (map rename (filter kept (take c.loop-number.number (rows_of parser)))) c.args.entries.now c.loop-number.entries c.args.tails.now c.loop-number.tails c.loop-number.invariant in
    let few = few_own rename kept c.loop-number.number (rows_of parser) in
    let inside : c.loop-number.number < length parser.entries = subst (λ (xs : List ParserEntry). c.loop-number.number < length xs) c.as_slice-others.ensures c.loop-number-test.true in
    omega (arith, long, few, inside)

pub loop-number-preserved : goal.loop-number-preserved
loop-number-preserved c =
    let parser = c.args.parser.now in
    let es = parser.entries in
    let n = c.loop-number.number in
    let e : ParserEntry = c.index-others-number.result in
    let there : slice_get es n ≡ Some e = slice_get-seen es _ n e c.as_slice-others.ensures c.loop-number-test.true c.index-others-number.is in
    let rename = renamed (is_among c.args.met.now) in
    let kept : Row → Bool = λ x. is_among c.args.met.now x.entry.state in
    let old : Row = record { entry = e; tail = tail_of parser n } in
    let row : slice_get (rows_of parser) n ≡ Some old = row_of parser n e there in
    elim c.if-is_among.branch [
      | then-is_among+in_ok-entry+in_ok-push_row w ↦
          let new : Row = record { entry = w.in_ok-entry.entry; tail = w.entry_tail.result } in
          let changed : rename old ≡ new =
          ap (λ (o : Option TailOf). record { entry = (rename old).entry; tail = o }) (sym w.entry_tail.ensures) ∙ ap (λ (x : ParserEntry). record { entry = x; tail = w.entry_tail.result }) (sym w.in_ok-entry.ensures) in
          let added = added_own c.args.entries.now c.loop-number.entries w.push_row.new.entries c.args.tails.now c.loop-number.tails w.push_row.new.tails rename kept (rows_of parser) n old new row
          (sym c.is_among.ensures ∙ w.if-is_among.true) changed c.loop-number.invariant w.in_ok-push_row.ensures in
          adds_at _ _ c.args.entries.now w.push_row.new.entries c.if-is_among.entries c.args.tails.now w.push_row.new.tails c.if-is_among.tails refl w.entries-is w.tails-is added
      | else-is_among w ↦
          adds_at _ _ c.args.entries.now c.loop-number.entries c.if-is_among.entries c.args.tails.now c.loop-number.tails c.if-is_among.tails refl w.entries-is w.tails-is
          (added_not c.args.entries.now c.loop-number.entries c.loop-number.entries c.args.tails.now c.loop-number.tails c.loop-number.tails rename kept (rows_of parser) n old row
          (sym c.is_among.ensures ∙ w.if-is_among.false) c.loop-number.invariant)
    ]

pub returns : goal.returns
returns c =
    let parser = c.args.parser.now in
    let end : length parser.entries ≤ c.loop-number.number = subst (λ (xs : List ParserEntry). length xs ≤ c.loop-number.number) c.as_slice-others.ensures c.loop-number-test.false in
    adds_at _ _ c.args.entries.now c.loop-number.entries c.loop-number.entries c.args.tails.now c.loop-number.tails c.loop-number.tails
    (ap (λ (xs : List Row). map (renamed (is_among c.args.met.now)) (filter (λ (x : Row). is_among c.args.met.now x.entry.state) xs)) (all_rows parser c.loop-number.number end)) refl refl c.loop-number.invariant
