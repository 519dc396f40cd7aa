use Rattle.std.proofs.Common.{◌≡◌, ℕ, List, [], true, false, ◌*◌, ◌≤◌, ◌++◌, length, refl, sym, ap, ◌∙◌, subst, arith}
use Rattle.std.specs.Prelude.{sum}
use Rattle.std.specs.List.{list_all}
use Rattle.std.proofs.lemmas.Bool.{false≢true, le-leb, lt-leb}
use Rattle.std.proofs.lemmas.Result.{IfOk-weaker}
use Rattle.rmt_config.specs.LaneForm.{bits_of_lanes}
use Rattle.rmt_config.specs.BlockCounts.{divided_up}
use Rattle.rmt_config.specs.PartsTold.{parts_at}
use Rattle.rmt_config.specs.KeyPrints.{kept_of_keys}
use Rattle.rmt_config.specs.KeysSeen.{keys_listed, news}
use Rattle.rmt_config.specs.NamesForm.{stands_in_candidates}
use Rattle.rmt_config.specs.Order.{are_new}
use Rattle.rmt_config.proofs.KeyListLaws.{kept-length}
use Rattle.rmt_config.proofs.PrintLaws.{news-by_prints}
use Rattle.rmt_config.proofs.SpelledTable.{bytes-kept, first-short, first-size, keys-counted, table-is}
use Rattle.rmt_config.proofs.form.names.exact.exact_fits.Goals as goal

pub returns-then-count-of : goal.returns-then-count-of
returns-then-count-of c =
    let of = c.args.of.now in
    let parts = parts_at of.parts.now in
    table-is of c.requires.stands c.requires.kind false (list_all (stands_in_candidates of.config.now) parts) (news (divided_up (sum of.table.now.keys) 8) [] (keys_listed of.config.now parts))
    (lt-leb (length of.numbers.now) of.table.now.size c.if-count-of.true) refl (λ e. refl)

pub parts_keys-requires : goal.parts_keys-requires
parts_keys-requires c = record { kind = c.requires.kind; stands = c.requires.stands }

pub returns-then-not-branch : goal.returns-then-not-branch
returns-then-not-branch c =
    table-is c.args.of.now c.requires.stands c.requires.kind true false true (le-leb (length c.args.of.now.numbers.now) c.args.of.now.table.now.size c.if-count-of.false)
    (sym c.if-not-branch.true ∙ c.in_ok-parts_keys.ensures.answer) (λ e. absurd (false≢true e))

pub returns-then-branch : goal.returns-then-branch
returns-then-branch c =
    let of = c.args.of.now in
    let size = divided_up (sum of.table.now.keys) 8 in
    let ks = keys_listed of.config.now (parts_at of.parts.now) in
    let prints : c.parts_keys.new.into.items ≡ kept_of_keys false size ks = c.in_ok-parts_keys.ensures.added c.if-not-branch.false
    ∙ ap (λ (old : List ℕ). old ++ kept_of_keys false size ks) c.in_ok-prints.ensures.items in
    table-is of c.requires.stands c.requires.kind true true true (le-leb (length of.numbers.now) of.table.now.size c.if-count-of.false)
    (sym c.if-not-branch.false ∙ c.in_ok-parts_keys.ensures.answer)
    (λ e. sym (news-by_prints size ks c.parts_keys.new.into.items prints (ap (are_new []) (sym c.as_slice.ensures.value) ∙ sym c.in_ok-all_differ.ensures ∙ c.if-branch.true)))

pub parts_keys-requires-2 : goal.parts_keys-requires-2
parts_keys-requires-2 c = record { kind = c.requires.kind; stands = c.requires.stands }

pub returns-then-not-branch-2 : goal.returns-then-not-branch-2
returns-then-not-branch-2 c =
    table-is c.args.of.now c.requires.stands c.requires.kind true false true (le-leb (length c.args.of.now.numbers.now) c.args.of.now.table.now.size c.if-count-of.false)
    (sym c.if-not-branch-2.true ∙ c.in_ok-parts_keys-2.ensures.answer) (λ e. absurd (false≢true e))

pub key_bits-requires : goal.key_bits-requires
key_bits-requires c =
    subst (λ ls. bits_of_lanes ls ≤ 640) (sym c.as_slice-2.ensures) (first-short c.args.of.now c.requires.stands c.requires.kind c.index-of-0.result c.index-of-0.is)

pub divided_up-size-requires-clause-fits : goal.divided_up-size-requires-clause-fits
divided_up-size-requires-clause-fits c =
    let short = first-short c.args.of.now c.requires.stands c.requires.kind c.index-of-0.result c.index-of-0.is in
    let bits = c.key_bits.ensures ∙ ap bits_of_lanes c.as_slice-2.ensures in
    omega (arith, bits, short)

pub each_is_new-requires : goal.each_is_new-requires
each_is_new-requires c =
    let of = c.args.of.now in
    let size = first-size of c.requires.stands c.requires.kind c.index-of-0.is c.as_slice-2.ensures c.key_bits.ensures c.divided_up-size.ensures in
    ap (λ (bs : List ℕ). length bs) (bytes-kept of c.requires.stands c.requires.kind c.new-keys.ensures.items (c.in_ok-parts_keys-2.ensures.added c.if-not-branch-2.false) c.as_slice-3.ensures.value size)
    ∙ kept-length c.divided_up-size.result (keys_listed of.config.now (parts_at of.parts.now)) ∙ ap (λ n. n * c.divided_up-size.result) (keys-counted of c.requires.stands c.requires.kind)

pub returns : goal.returns
returns c =
    let of = c.args.of.now in
    let ks = keys_listed of.config.now (parts_at of.parts.now) in
    let size = first-size of c.requires.stands c.requires.kind c.index-of-0.is c.as_slice-2.ensures c.key_bits.ensures c.divided_up-size.ensures in
    let bytes = bytes-kept of c.requires.stands c.requires.kind c.new-keys.ensures.items (c.in_ok-parts_keys-2.ensures.added c.if-not-branch-2.false) c.as_slice-3.ensures.value size in
    IfOk-weaker c.each_is_new.result _ _ (λ new f.
    table-is of c.requires.stands c.requires.kind true true new (le-leb (length of.numbers.now) of.table.now.size c.if-count-of.false)
    (sym c.if-not-branch-2.false ∙ c.in_ok-parts_keys-2.ensures.answer)
    (λ e. f ks bytes (keys-counted of c.requires.stands c.requires.kind) ∙ ap (λ n. news n [] ks) size))
    c.each_is_new.ensures
