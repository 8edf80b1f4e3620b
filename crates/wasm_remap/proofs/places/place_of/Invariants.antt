use Rattle.std.proofs.Common.{length, ◌-◌, ◌≡◌, ◌≤◌, take}
use Rattle.wasm_remap.specs.Places.{rank_of, sections_in}
use Rattle.wasm_remap.proofs.PlaceLaws.{HasRead}
use Rattle.wasm_remap.proofs.places.place_of.Given as goal

abbrev pub invariant-loop-read : goal.invariant-loop-read
invariant-loop-read g l = (l.read ≤ length l.sections) × (l.new ≡ rank_of l.id) × HasRead l.id l.is_leading l.place (sections_in (take l.read l.sections))

abbrev pub decreases-loop-read : goal.decreases-loop-read
decreases-loop-read g l = length l.sections - l.read
