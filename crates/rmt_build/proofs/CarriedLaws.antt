-- A configuration whose stages are those of a plan carries the program.
use Rattle.std.proofs.Common.{◌≡◌, ℕ, suc, ◌<◌, ◌+◌, List, [], ◌∷◌, Some, length, map, get_or, refl, ap, ◌∙◌, subst, arith}
use Rattle.std.specs.Prelude.{All, Contains, IsSomeAnd, slice_get, slice_index}
use Rattle.std.specs.List.{AllZip}
use Rattle.std.proofs.lemmas.List.Elements.{Contains-get_or}
use Rattle.rmt_bits.proofs.ListLaws.{slice_get-alike, slice_get-item}
use Rattle.rmt_build.specs.Types.{Program, Config, Stage}
use Rattle.rmt_ast.specs.declared.entry.Entry.{Entry}
use Rattle.rmt_ast.specs.EntryLists.{AreEntries}
use Rattle.rmt_ast.specs.WellFormed.{IsProgram}
use Rattle.rmt_config.specs.Agreement.{AgreesWith}
use Rattle.rmt_pack.specs.declared.placement.Part.{Part}
use Rattle.rmt_refine.specs.declared.map.CellOf.{CellOf}
use Rattle.rmt_refine.specs.Carries.{CarriesIn, EdgesKept, all_edges}
use Rattle.rmt_refine.specs.Cells.{CellsCarried, IsSpotOf}
use Rattle.rmt_refine.specs.Places.{PlacesCarried}
use Rattle.rmt_refine.specs.Units.{UnitCarried, UnitsCarried, nodes_in}
use Rattle.rmt_refine.specs.View.{own_view}
use Rattle.rmt_pack.proofs.PartLaws.{IsPart as Stands, and_from}
use Rattle.rmt_refine.proofs.PartLaws.{spot_of_part}
use Rattle.rmt_filling.specs.declared.plan.Plan.{Plan}
use Rattle.rmt_build.specs.BuiltStage.{IsBuiltStage}
use Rattle.rmt_build.specs.Plans.{AreParts, AreStands}
use Rattle.rmt_filling.specs.Formats.{format_at}
use Rattle.rmt_build.specs.Told.{cells_told}
use Rattle.rmt_build.proofs.AssemblyLaws.{code_carried}
use Rattle.rmt_build.proofs.DistinctLaws.{told_once}
use Rattle.rmt_build.proofs.SpotLaws.{listed_stands, part_size, table_of_part}
use Rattle.rmt_build.proofs.TableLaws.{AreInRows, AreLoaded, table_cells}
use Rattle.rmt_build.proofs.ToldLaws.{IsListed, slot_there, told_listed}

starts_same : (stages : List Stage) (starts : List ℕ) → length stages ≡ length starts → ((k : ℕ) (s : Stage) → slice_get stages k ≡ Some s → s.start ≡ slice_index starts k)
    → map (λ (s : Stage). s.start) stages ≡ starts
starts_same [] [] long each = refl
starts_same [] (x ∷ starts) long each = absurd (omega (arith, long))
starts_same (s ∷ stages) [] long each = absurd (omega (arith, long))
starts_same (s ∷ stages) (x ∷ starts) long each =
    ap (λ n. n ∷ map (λ (y : Stage). y.start) stages) (each 0 s refl)
    ∙ ap (λ ns. x ∷ ns) (starts_same stages starts (omega (arith, long)) (λ k y at. each (suc k) y at))

module _ (p : Program) (lists : List (List Entry)) (plan : Plan) (c : Config) (entries : AreEntries p lists)
    (parts : AreParts p plan.placement.parts) (stands : AreStands p lists plan.placement.parts plan.stands) (quanta : (n : ℕ) → n < length p.nodes → 0 < (format_at p n).quanta)
    (long : length c.stages ≡ length plan.starts) (room : All (λ (x : Part). x.stage < length c.stages) plan.placement.parts)
    (built : (k : ℕ) (stage : Stage) → slice_get c.stages k ≡ Some stage → IsBuiltStage p lists plan k stage) where
  pub units_carried : UnitsCarried p plan.places plan.placement.parts plan.starts c
  units_carried = record {
    each_node = λ n lt. (let some = quanta n lt in let whole = parts.whole n lt in omega (arith, some, whole));
    no_other = λ k d lt. (let x = parts.each k d lt in ((x.node), room k d lt, x.quanta));
    starts_are = starts_same c.stages plan.starts long (λ k s at. (built k s at).start);
    units = λ k lt.
        (let s = slice_get-item c.stages k lt in
        and_from (slice_get c.stages k) (λ (x : Stage). AllZip (UnitCarried p plan.places plan.placement.parts k) (nodes_in p plan.placement.parts k) x.units) s.0 s.1 (built k s.0 s.1).units);
  }

  module _ (loaded : AreLoaded p lists plan c (cells_told (length p.nodes) c.stages) entries units_carried stands built refl)
      (in_rows : AreInRows p lists plan c (cells_told (length p.nodes) c.stages) entries units_carried stands built refl) where
    pub cells_carried : CellsCarried p c (own_view c) (cells_told (length p.nodes) c.stages) lists
    cells_carried = record {
      tables = λ n t es table_is es_are.
          (let own = slice_get-alike lists plan.stands n es stands.all_there es_are in
          table_cells p lists plan c (cells_told (length p.nodes) c.stages) entries units_carried stands built refl n t es own.0 table_is es_are own.1 loaded in_rows);
      once = told_once p lists plan c entries units_carried stands built (length p.nodes);
      no_other = λ k d lt.
          (let cells = cells_told (length p.nodes) c.stages in
          spot_of (get_or cells k d) (told_listed (length p.nodes) c.stages (get_or cells k d) (Contains-get_or cells k d lt)));
    }
      where
        spot_of : (x : CellOf) → (n : ℕ) × (n < length p.nodes) × IsListed n 0 c.stages x
            → (n : ℕ) × (e : Entry) × (place : ℕ) × IsSomeAnd (slice_get lists n) (λ es. Contains es e) × (e.number ≡ x.entry) × IsSpotOf c n (record { stage = x.stage; place = place; cell = x.cell })
        spot_of x (n, lt, q) =
            let part : Stands c n q.at q.place q.stage q.own.slot = record { stage_is = q.stage_is; slot_is = slot_there q; node_is = q.own.node_is } in
            let has = table_of_part p lists plan c entries units_carried stands built n q.at q.place q.stage q.own.slot part in
            let its = listed_stands p lists plan c entries units_carried stands built n q.at q.place q.stage q.own.slot part has.table has.entries has.own has.table_is has.entries_are has.own_is q.own.number q.own.there in
            let size = part_size p lists plan c entries units_carried stands built n q.at q.place q.stage q.own.slot part has.table has.entries has.own has.table_is has.entries_are has.own_is in
            let stage : q.at ≡ x.stage = (let none : q.at ≡ 0 + q.at = omega arith in none) ∙ ap (λ (y : CellOf). y.stage) q.own.told in
            let cell : q.own.number.cell ≡ x.cell = ap (λ (y : CellOf). y.cell) q.own.told in
            let spot = spot_of_part c n q.at q.place q.own.number.cell q.stage q.own.slot part (omega (arith, its.3.within, size)) in (
              n,
              its.0,
              q.place,
              and_from (slice_get lists n) (λ es. Contains es its.0) has.entries has.entries_are its.1,
              its.2 ∙ ap (λ (y : CellOf). y.entry) q.own.told,
              subst (λ k. IsSpotOf c n (record { stage = k; place = q.place; cell = x.cell })) stage
                  (subst (λ a. IsSpotOf c n (record { stage = q.at; place = q.place; cell = a })) cell spot),
            )

    -- so it carries the program, as the map of the plan tells
    pub built_carries : IsProgram p → PlacesCarried p plan.places c → AgreesWith c.parser plan.places p → EdgesKept (all_edges p plan.places) plan.placement.parts plan.starts
        → CarriesIn p lists (record { places = plan.places; placement = plan.placement; starts = plan.starts; cells = cells_told (length p.nodes) c.stages }) c (own_view c)
    built_carries program places parser edges = record {
      places = places;
      parser = parser;
      units = units_carried;
      cells = cells_carried;
      code = code_carried p plan.places program places.apart c (λ k stage at. (built k stage at).code);
      edges = edges;
    }
