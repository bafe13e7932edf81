-- Colourings that agree at each point are equal.
use Rattle.std.proofs.Common.{◌≡◌, ◌<◌, ◌∙◌, ℕ, None, ap₂, length, refl, sym}
use Rattle.std.proofs.lemmas.List.FromFn.{fill_by_all}
use Rattle.go_board.specs.Grids.{GridValue}
use Rattle.go_board.specs.Colours.{Colouring, colour_at}

pub equal_by_points : (n : ℕ) (g h : Colouring) → length g ≡ n → length h ≡ n →
    ((k : ℕ) → k < n → colour_at g k ≡ colour_at h k) → g ≡ h
equal_by_points n g h g_whole h_whole same =
    fill_by_all (colour_at h) g n None g_whole same ∙ sym (fill_by_all (colour_at h) h n None h_whole (λ k low. refl))

pub equal_grids : (n : ℕ) (g h : GridValue) → g.lines ≡ h.lines → length g.colours ≡ n → length h.colours ≡ n →
    ((k : ℕ) → k < n → colour_at g.colours k ≡ colour_at h.colours k) → g ≡ h
equal_grids n g h lines g_whole h_whole same =
    ap₂ (λ (m : ℕ) (colours : Colouring). let grid : GridValue = record { lines = m; colours = colours } in grid) lines
    (equal_by_points n g.colours h.colours g_whole h_whole same)
