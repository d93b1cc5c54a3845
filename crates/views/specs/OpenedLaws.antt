-- What opening is good for: a call on views that were opened with answer 0, at one width, is refused for want of room only.
use Rattle.std.specs.Prelude.{◌≡◌, false, List, [], ◌∷◌, ℕ, ◌/◌, length}
use Rattle.std.proofs.Common.{le-ltb}
use Rattle.defs.specs.declared.Operation.{Operation}
use Rattle.defs.specs.Basics.{if◌then◌otherwise◌}
use Rattle.defs.specs.Lists.{record_words, records_of, same_keys}
use Rattle.defs.specs.Tidy.{nodes_of}
use Rattle.defs.specs.Lemmas.{All, nil, more}
use Rattle.defs.specs.Outcome.{answer, first_of, Side, entries_of, width_row, fault_row, root_row, room_row, side_rows, list_outcome, equal_outcome, tidy_outcome}
use Rattle.defs.specs.OutcomeLaws.{first_passes}
use Rattle.tidy.specs.Call.{Passed, zero_passed}
use Rattle.views.specs.Views.{open_rows, open_outcome}

-- opened with answer 0
abbrev pub Opens : ℕ → Side → Type 0
Opens width s = (open_outcome width s).number ≡ 0

module _ (width : ℕ) (s : Side) (z : Opens width s) where
  p : Passed width s
  p = zero_passed width s z

  width_passes : (width_row width).holds ≡ false
  width_passes = rw p.known

  fault_passes : (n : ℕ) → (fault_row n width s).holds ≡ false
  fault_passes n = rw p.faultless

  root_passes : (n : ℕ) → (root_row n width s).holds ≡ false
  root_passes n = le-ltb width s.root.len p.short

  -- tidying looks at the two buffers only
  pub tidy_opened : (out values : List ℕ) → let nodes = length (nodes_of (entries_of s)) in
      (tidy_outcome width s out values).answer ≡ first_of (room_row 6 nodes (length out / 4) ∷ room_row 7 (length (entries_of s)) (length values) ∷ []) nodes
  tidy_opened out values =
      let nodes = length (nodes_of (entries_of s)) in
      first_passes (open_rows width s) (room_row 6 nodes (length out / 4) ∷ room_row 7 (length (entries_of s)) (length values) ∷ []) nodes
      (more {x = width_row width} width_passes (more {x = fault_row 2 width s} (fault_passes 2) (more (root_passes 4) nil)))

module _ (width : ℕ) (l r : Side) (zl : Opens width l) (zr : Opens width r) where
  sides_pass : All (λ x. x.holds ≡ false) (side_rows width l r)
  sides_pass =
      more {x = width_row width} (width_passes width l zl) (more {x = fault_row 2 width l} (fault_passes width l zl 2) (more {x = fault_row 3 width r} (fault_passes width r zr 3)
      (more {x = root_row 4 width l} (root_passes width l zl 4) (more (root_passes width r zr 5) nil))))

  -- a list looks at the output only
  pub list_opened : (op : Operation) (out : List ℕ) → let n = length (records_of op (entries_of l) (entries_of r)) in
      (list_outcome op width l r out).answer ≡ first_of (room_row 6 n (length out / record_words) ∷ []) n
  list_opened op out = let n = length (records_of op (entries_of l) (entries_of r)) in first_passes (side_rows width l r) (room_row 6 n (length out / record_words) ∷ []) n sides_pass

  -- key equality is not refused
  pub equal_opened : equal_outcome width l r ≡ answer 0 (if same_keys (entries_of l) (entries_of r) then 1 otherwise 0) 0
  equal_opened = first_passes (side_rows width l r) [] (if same_keys (entries_of l) (entries_of r) then 1 otherwise 0) sides_pass
