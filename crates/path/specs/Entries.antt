-- The list of a path: the start, then the point after each step. A join stands once, as the end of the earlier segment; repeated pixels stay.
use Rattle.std.specs.Prelude.{List, [], ◌∷◌, ◌++◌, ℕ, zero, suc, ◌+◌, ◌*◌, ◌^◌, pos}
use Rattle.engine.specs.declared.Drawing.{Drawing}
use Rattle.coordinate.specs.Registers.{Operation, halve, double, step}
use Rattle.engine.specs.Drawing.{turned}
use Rattle.coordinate.specs.Shown.{pixel}
use Rattle.entries.specs.declared.Entry.{Entry}
use Rattle.path.specs.Path.{Path, first}
use Rattle.path.specs.Segment.{Turn, turns}

-- position 2^F·k + q, and the point shown with its width
unfoldable pub entry : ℕ → ℕ → Drawing → Entry
entry F k d = record { position = pos (2 ^ F * k + d.q); x = pixel d.x; y = pixel d.y; width = pixel d.width }

-- what an operation on d shows: a step the point after it, halve and double none
abbrev pub shown : ℕ → ℕ → Operation → Drawing → List Entry
shown F k halve d = []
shown F k double d = []
shown F k step d = entry F k (turned step d) ∷ []

unfoldable pub shown_by : ℕ → ℕ → List Turn → List Entry
shown_by F k [] = []
shown_by F k (t ∷ ts) = shown F k t.operation t.drawing ++ shown_by F k ts

-- what is left of segment k from d on
unfoldable pub rest : Path → ℕ → Drawing → List Entry
rest p k d = shown_by p.finest k (turns p.upper p.lower d)

-- m segments from the k-th on, without the point that the first of them starts from
unfoldable pub following : Path → ℕ → ℕ → List Entry
following p k zero = []
following p k (suc m) = rest p k (first p.degree p.finest p.points p.level k) ++ following p (k + 1) m

unfoldable pub entries : Path → List Entry
entries p = entry p.finest 0 (first p.degree p.finest p.points p.level 0) ∷ following p 0 p.segments
