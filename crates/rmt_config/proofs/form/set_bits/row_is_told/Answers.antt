use Rattle.std.proofs.Common.{◌≡◌, ◌+◌, ◌-◌, ◌*◌, ◌/◌, ◌≤◌, ℕ, Bool, true, false, arith, sym, subst, ◌∙◌, inl, inr}
use Rattle.std.specs.Prelude.{IsTrue, ◌⊎◌}
use Rattle.std.proofs.lemmas.Bool.{false≢true}
use Rattle.std.proofs.lemmas.Nat.{div-add-mod', mod_below, mul-le}
use Rattle.rmt_bits.specs.Bits.{slice}
use Rattle.rmt_config.specs.Layouts.{listed_cells, is_told as is_told_of}
use Rattle.rmt_config.proofs.RowTold.{told-more, told-broken}
use Rattle.rmt_config.proofs.form.set_bits.row_is_told.Goals as goal
use Rattle.rmt_config.proofs.form.set_bits.row_is_told.Goals.{else-piece-ne0-via-then-piece-ne0+else-not-is_told, else-piece-ne0-via-else-piece-ne0}

pub joined-start-requires : goal.joined-start-requires
joined-start-requires c =
    let l = c.args.listed.now.layout in
    let is = c.requires.listed.layout in
    let low = mul-le c.args.place l.bits 1024 112 (omega (arith, c.requires.place, is.most_side)) is.most_bits in
    omega (arith, low)

pub overflow_add-end : goal.overflow_add-end
overflow_add-end c =
    let l = c.args.listed.now.layout in
    let is = c.requires.listed.layout in
    let low = mul-le c.args.place l.bits 1024 112 (omega (arith, c.requires.place, is.most_side)) is.most_bits in
    omega (arith, low, c.joined-start.ensures, is.most_bits)

pub nonzero_div-position : goal.nonzero_div-position
nonzero_div-position c = omega (arith, c.requires.listed.layout.some_entry)

pub joined-low-requires : goal.joined-low-requires
joined-low-requires c =
    let l = c.args.listed.now.layout in
    let is = c.requires.listed.layout in
    let low = mul-le c.args.place l.bits 1024 112 (omega (arith, c.requires.place, is.most_side)) is.most_bits in
    let split = div-add-mod' c.joined-start.result l.entry in
    omega (arith, low, c.joined-start.ensures, split)

pub loop-low-init : goal.loop-low-init
loop-low-init c =
    let l = c.args.listed.now.layout in
    let start = c.joined-start.result in
    let split = div-add-mod' start l.entry in
    let rest = mod_below start l.entry c.requires.listed.layout.some_entry in
    let low : c.joined-low.result ≤ start = omega (arith, c.joined-low.ensures, split) in
    record {
      at = omega (arith, c.joined-low.ensures);
      most = omega (arith, low);
      after = omega (arith, c.joined-low.ensures, split, rest);
      told = λ t lt below one. absurd (omega (arith, low, below));
    }

pub is_told-requires : goal.is_told-requires
is_told-requires c = record { listed = c.requires.listed; unit = c.requires.unit; row = c.requires.row }

pub returns-then-not-is_told : goal.returns-then-not-is_told
returns-then-not-is_told c =
    let l = c.args.listed.now.layout in
    let tell : ℕ → Bool = is_told_of l (listed_cells c.args.listed.now.numbers.now) c.args.unit c.args.row in
    let start = c.joined-start.result in
    let e : c.args.place * l.bits ≡ start = omega (arith, c.joined-start.ensures) in
    let never : tell c.loop-low.position ≡ false = sym c.is_told.ensures ∙ c.if-not-is_told.true in (
      λ f. absurd (false≢true f),
      λ told. absurd (told-broken tell c.args.bits l.entry l.bits start c.loop-low.low c.loop-low.position c.max.result c.min.result c.loop-low.invariant.at
          c.max.ensures c.min.ensures (λ z. c.if-piece-ne0.true (c.piece.ensures ∙ z)) never
          (λ t lt one. subst (λ s. IsTrue (tell ((s + t) / l.entry))) e (told t lt one))),
    )

pub loop-low-preserved : goal.loop-low-preserved
loop-low-preserved c =
    let l = c.args.listed.now.layout in
    let tell : ℕ → Bool = is_told_of l (listed_cells c.args.listed.now.numbers.now) c.args.unit c.args.row in
    let clear : (slice c.args.bits (c.max.result - c.joined-start.result) (c.min.result - c.joined-start.result - (c.max.result - c.joined-start.result)) ≡ 0)
    ⊎ (tell c.loop-low.position ≡ true) =
    elim c.else-piece-ne0.branch [
      | else-piece-ne0-via-then-piece-ne0+else-not-is_told w ↦ inr (sym w.is_told.ensures ∙ w.if-not-is_told.false)
      | else-piece-ne0-via-else-piece-ne0 w ↦ inl (sym c.piece.ensures ∙ w.if-piece-ne0.false)
    ] in
    record {
      at = omega (arith, c.loop-low.invariant.at);
      most = omega (arith, c.loop-low-test.true);
      after = omega (arith, c.loop-low.invariant.after);
      told = told-more tell c.args.bits l.entry l.bits c.joined-start.result c.loop-low.low c.loop-low.position c.max.result c.min.result c.loop-low.invariant.at
          c.max.ensures c.min.ensures clear c.loop-low.invariant.told;
    }
