-- A view as one value, and what opening one gives.
use Rattle.std.specs.Prelude.{List, [], ◌∷◌, ℕ, Result, Ok, Err}
use Rattle.std.specs.Borrow.{Bor}
use Rattle.defs.specs.declared.Answer.{Answer}
use Rattle.defs.specs.Refusals.{answer_for}
use Rattle.defs.specs.Outcome.{Row, first_of, Side, width_row, fault_row, root_row}
use Rattle.lhamtrovi.specs.Plain.{side}
use Rattle.views.specs.declared.View.{View}
use Rattle.views.specs.declared.NotOpened.{NotOpened}

-- the side of a call that a view is
abbrev pub side_of : View → Side
side_of v = side v.words.now v.key v.len

-- the rows of opening, in the order in which they are tested
abbrev pub open_rows : ℕ → Side → List Row
open_rows width s = width_row width ∷ fault_row 2 width s ∷ root_row 4 width s ∷ []

-- opening: a refusal, or 0
abbrev pub open_outcome : ℕ → Side → Answer
open_outcome width s = first_of (open_rows width s) 0

-- what opening gives: a refusal's number or 0, the number beside it, and the view's fields
pub record Opened : Type 0 where
  pub number : ℕ
  pub beside : ℕ
  pub words : Bor (List ℕ)
  pub width : ℕ
  pub key : ℕ
  pub len : ℕ

-- what opening gives: its answer, and the view's fields as they were given
abbrev pub opened : ℕ → Bor (List ℕ) → ℕ → ℕ → Opened
opened width words key len =
    let a = open_outcome width (side words.now key len) in
    record { number = a.number; beside = a.beside; words = words; width = width; key = key; len = len }

-- the same of a result: 0 with the view, or the refusal with the view that was not opened
abbrev pub opened_by : Result View NotOpened → Opened
opened_by (Ok v) = record { number = 0; beside = 0; words = v.words; width = v.width; key = v.key; len = v.len }
opened_by (Err e) =
    let a = answer_for e.refusal in
    record { number = a.number; beside = a.beside; words = e.view.words; width = e.view.width; key = e.view.key; len = e.view.len }

-- the view that was opened
abbrev pub view_of : Opened → View
view_of o = record { words = o.words; width = o.width; key = o.key; len = o.len }
