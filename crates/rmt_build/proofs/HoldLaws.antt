-- What the cells of a part hold, from what was written.
use Rattle.std.proofs.Common.{◌≡◌, ℕ, ◌+◌, ◌-◌, ◌*◌, ◌/◌, ◌%◌, ◌^◌, ◌<◌, ◌≤◌, List, length, get_or, map, true, ◌&&◌, refl, sym, ap, ◌∙◌, subst, arith}
use Rattle.std.specs.Prelude.{All, ◌==◌, slice_index}
use Rattle.std.specs.List.{AllZip}
use Rattle.rmt_bits.proofs.AllLaws.{All-slice_get}
use Rattle.rmt_build.specs.Types.{Program, Table, Kind}
use Rattle.rmt_ast.specs.declared.program.Kind.TheVariants as kind
use Rattle.rmt_ast.specs.declared.entry.Entry.{Entry}
use Rattle.rmt_ast.specs.EntryLists.{HasRank, IsEntry, IsWhole, params_of, terms_of}
use Rattle.rmt_ast.specs.State.{width_of}
use Rattle.rmt_ast.specs.WellFormed.{bits_of}
use Rattle.rmt_config.specs.declared.config.Memory.TheVariants.{Exact, Ternary}
use Rattle.rmt_config.specs.Cells.{code_of, is_seen, row_record, visible_bits}
use Rattle.rmt_config.specs.Effects.{HasArguments}
use Rattle.rmt_filling.specs.declared.stands.Stand.{Stand}
use Rattle.rmt_filling.specs.Holding.{ExactHolds, ExactSo, Held, TernaryHolds, TernarySo, content_in, data_for, exact_part, head_for, ternary_part, value_for}
use Rattle.rmt_build.specs.HeldParts.{HoldsIn, PartHolds}
use Rattle.rmt_filling.proofs.EntryLaws.{entry-action, entry-fits}
use Rattle.rmt_pack.proofs.ContentLaws.{has_arguments}
use Rattle.rmt_pack.proofs.BesideLaws.{whole_mask}

-- ---- heads

head-seen : (code : ℕ) → is_seen (head_for code) ≡ true
head-seen code = let odd : (7 + 8 * code) % 2 ≡ 1 = omega arith in ap (λ n. n == 1) odd

head-code : (code : ℕ) → code < 32 → code_of (head_for code) ≡ code
head-code code lt = omega (arith, lt)

head-visible : (code : ℕ) → visible_bits (head_for code) ≡ 3
head-visible code = omega arith

head-low : (code rest : ℕ) → code < 32 → (head_for code + 256 * rest) % 256 ≡ head_for code
head-low code rest lt = omega (arith, lt)

head-high : (code rest : ℕ) → code < 32 → (head_for code + 256 * rest) / 256 ≡ rest
head-high code rest lt = omega (arith, lt)

-- ---- parts

module _ (p : Program) (t : Table) (n : ℕ) (es : List Entry) (first : ℕ) (each : All (IsEntry n (terms_of p t)) es) (few : first + length t.actions ≤ 32) (h : Held) (bits held d : ℕ) (ks rs cs : List ℕ) (stands : List Stand) where
  code-lt : (e : Entry) → IsEntry n (terms_of p t) e → first + e.action < 32
  code-lt e is = let lt = entry-action p t n e is in omega (arith, lt, few)

  exact-in : (k per way : ℕ) → t.kind ≡ kind.Exact → bits ≡ bits_of p t.key → (x : Stand) → ExactHolds p t es first h.sram (exact_part bits held k per d ks rs) x
      → HoldsIn p t es first bits held h (Exact k per d way ks rs cs) x
  exact-in k per way exact size x so =
      let e = so.entry in
      let is = All-slice_get (IsEntry n (terms_of p t)) es x.entry e each so.is in
      let lt = code-lt e is in
      let whole : AllZip IsWhole (map (width_of p) t.key) e.tests = exact_rank is in
      record {
        entry = e;
        is = so.is;
        holds = record {
          seen = ap (λ v. is_seen (v % 256)) so.cell ∙ ap is_seen (head-low (first + e.action) (value_for p t e) lt) ∙ head-seen (first + e.action);
          code = ap (λ v. code_of (v % 256)) so.cell ∙ ap code_of (head-low (first + e.action) (value_for p t e) lt) ∙ head-code (first + e.action) lt;
          key = ap (λ v. v / 256) so.cell ∙ head-high (first + e.action) (value_for p t e) lt;
          mask = ap (λ v. 2 ^ v - 1) size ∙ sym (whole_mask (map (width_of p) t.key) e.tests whole);
          held = subst (HasArguments (params_of p (slice_index t.actions e.action)) e.args) (sym so.data_is) (has_arguments (params_of p (slice_index t.actions e.action)) e.args (entry-fits p t n e is));
          number_is = refl;
        };
        visible = ap (λ v. visible_bits (v % 256)) so.cell ∙ ap visible_bits (head-low (first + e.action) (value_for p t e) lt) ∙ head-visible (first + e.action);
      }
    where
      exact_rank : {e : Entry} → IsEntry n (terms_of p t) e → AllZip IsWhole (map (width_of p) t.key) e.tests
      exact_rank {e} is = (subst (λ (k : Kind). HasRank k (map (width_of p) t.key) e) exact is.rank).0

  ternary-in : (x : Stand) → TernaryHolds p t es first h (ternary_part bits held d rs) ks x → HoldsIn p t es first bits held h (Ternary d ks rs cs) x
  ternary-in x so =
      let e = so.entry in
      let is = All-slice_get (IsEntry n (terms_of p t)) es x.entry e each so.is in
      let lt = code-lt e is in
      let back : held + 8 - 8 ≡ held = omega arith in
      let own : row_record h.sram rs held x.cell ≡ head_for (first + e.action) + 256 * data_for p t e = ap (λ v. row_record h.sram rs v x.cell) (sym back) ∙ so.data_is in
      record {
        entry = e;
        is = so.is;
        holds = record {
          seen = ap (λ v. is_seen (v % 256)) own ∙ ap is_seen (head-low (first + e.action) (data_for p t e) lt) ∙ head-seen (first + e.action);
          code = ap (λ v. code_of (v % 256)) own ∙ ap code_of (head-low (first + e.action) (data_for p t e) lt) ∙ head-code (first + e.action) lt;
          key = so.value;
          mask = so.mask;
          held = subst (HasArguments (params_of p (slice_index t.actions e.action)) e.args) (sym (ap (λ v. v / 256) own ∙ head-high (first + e.action) (data_for p t e) lt))
              (has_arguments (params_of p (slice_index t.actions e.action)) e.args (entry-fits p t n e is));
          number_is = refl;
        };
        visible = ap (λ v. visible_bits (v % 256)) own ∙ ap visible_bits (head-low (first + e.action) (data_for p t e) lt) ∙ head-visible (first + e.action);
      }

  pub exact-holds : (k per way : ℕ) → t.kind ≡ kind.Exact → bits ≡ bits_of p t.key → ExactSo p t es first h.sram (exact_part bits held k per d ks rs) stands
      → PartHolds p t es stands first bits held h (Exact k per d way ks rs cs)
  exact-holds k per way exact size so = record {
    holds = λ i o lt. exact-in k per way exact size (get_or stands i o) (so.holds i o lt);
    clear = λ cell lt none.
        let was = so.clear cell lt none in
        ap (λ v. (v % 256 == 0) && (v / 256 == 0) && ((content_in h bits held (Exact k per d way ks rs cs) cell).held == 0)) was.0 ∙ ap (λ v. v == 0) was.1;
    ends = (so.ends, so.records);
  }

  pub ternary-holds : TernarySo p t es first h (ternary_part bits held d rs) ks stands → PartHolds p t es stands first bits held h (Ternary d ks rs cs)
  ternary-holds so = record {
    holds = λ i o lt. ternary-in (get_or stands i o) (so.holds i o lt);
    clear = λ cell lt none.
        let was = so.clear cell lt none in
        let back : held + 8 - 8 ≡ held = omega arith in
        let own : row_record h.sram rs held cell ≡ 0 = ap (λ v. row_record h.sram rs v cell) (sym back) ∙ was.0 in
        let c = content_in h bits held (Ternary d ks rs cs) cell in
        ap (λ v. (v % 256 == 0) && (c.key == 0) && (v / 256 == 0) && (c.mask == 0)) own
        ∙ ap (λ v. (v == 0) && true && (c.mask == 0)) was.1 ∙ ap (λ v. v == 0) was.2;
    ends = (so.ends, so.records);
  }
