-- What reading one side promises to the reader of the whole input.
use Rattle.std.specs.Prelude.{◌≡◌, List, ℕ, length}
use Rattle.text.specs.declared.Part.{Part}
use Rattle.text.specs.Input.{Side, over}

-- the part p of the input is the side s, whose words stand at the front of the buffer
pub record IsSide (s : Side) (old new : List ℕ) (p : Part) : Type 0 where
  pub counted : p.words ≡ length s.words
  pub goes_on : p.rest.now ≡ s.left_over
  pub holds : new ≡ over s.words old
