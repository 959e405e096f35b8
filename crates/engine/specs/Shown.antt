-- The point shown: its pixel, and its width; each coordinate is rounded alike.
use Rattle.coordinate.specs.Shown.{pixel}
use Rattle.engine.specs.declared.Drawing.{Drawing}
use Rattle.engine.specs.declared.Shown.{Shown}

unfoldable pub point : Drawing → Shown
point d = record { x = pixel d.x; y = pixel d.y; width = pixel d.width }
