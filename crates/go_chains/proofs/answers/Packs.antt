-- The pack of the colours that cells say, byte by byte.
use Rattle.std.specs.Prelude.{replicate}
use Rattle.std.proofs.Common.{arith, ◌≡◌, ◌≢◌, ◌<◌, ◌≤◌, ◌+◌, ◌*◌, ◌/◌, ◌%◌, ◌∙◌, ℕ, List, Some, None, ap, get_or, inl, inr, length, slice_index, slice_set, sym}
use Rattle.std.proofs.lemmas.Bool.{cases_eq, cases_lt}
use Rattle.std.proofs.lemmas.List.{get_or-replicate, get_or-set_other, get_or-set_same, get_or_past, length-replicate}
use Rattle.std.proofs.lemmas.List.FromFn.{fill_by_all, get_or-map-range_with_len, length-map-range_with_len}
use Rattle.std.proofs.Math.ListN.{length-set}
use Rattle.go_board.specs.declared.pack.TheConstants.{PACK_BYTES}
use Rattle.go_board.specs.declared.size.TheConstants.{MAX_LINES, MAX_POINTS}
use Rattle.go_board.specs.declared.colour.Colour.{Colour}
use Rattle.go_board.specs.Colours.{Colouring, colour_at}
use Rattle.go_board.specs.Packs.{byte_of, code_of, packed_of, colour_coded}
use Rattle.go_chains.specs.Cells.{code_at}
use Rattle.go_chains.specs.Boards.{colouring_of}
use Rattle.go_chains.specs.inner.Codes.{code_in}
use Rattle.go_chains.proofs.answers.Codes.{byte_put}
use Rattle.go_chains.proofs.rules.Sound.{colouring-at, length-colouring}
use Rattle.go_chains.proofs.answers.Queries.{code_none, zero_cell}

-- a byte of a pack
byte-at : (g : Colouring) (i : ℕ) → i < PACK_BYTES → slice_index (packed_of g) i ≡ byte_of g i
unfolding packed_of
byte-at g i low = get_or-map-range_with_len (byte_of g) 0 PACK_BYTES i i 0 low (omega arith)

pub length-pack : (g : Colouring) → length (packed_of g) ≡ PACK_BYTES
unfolding packed_of
length-pack g = length-map-range_with_len (byte_of g) 0 PACK_BYTES

-- bytes of which each is that of its points
packed_by : (g : Colouring) (bytes : List ℕ) → length bytes ≡ PACK_BYTES →
    ((i : ℕ) → i < PACK_BYTES → get_or bytes i 0 ≡ byte_of g i) → bytes ≡ packed_of g
unfolding packed_of
packed_by g bytes whole each = fill_by_all (byte_of g) bytes PACK_BYTES 0 whole each

-- colourings with the same points of a byte
byte_same : (g h : Colouring) (i : ℕ) → ((k : ℕ) → 4 * i ≤ k → k < 4 * i + 4 → colour_at g k ≡ colour_at h k) →
    byte_of g i ≡ byte_of h i
byte_same g h i same =
    let at : (k : ℕ) → 4 * i ≤ k → k < 4 * i + 4 → code_of (colour_at g k) ≡ code_of (colour_at h k) = λ k low high.
    ap code_of (same k low high) in
    omega (
      arith,
      at (4 * i) (omega arith) (omega arith),
      at (4 * i + 1) (omega arith) (omega arith),
      at (4 * i + 2) (omega arith) (omega arith),
      at (4 * i + 3) (omega arith) (omega arith),
    )

-- a colour cell's code
pub code-at : (cells : List ℕ) (k : ℕ) → k < MAX_POINTS →
    code_of (colour_at (colouring_of MAX_LINES cells) k) ≡ code_of (colour_coded (code_at cells k))
code-at cells k low = ap code_of (colouring-at MAX_LINES cells k (omega (arith, low)))

pub code-past : (cells : List ℕ) (k : ℕ) → MAX_POINTS ≤ k → code_of (colour_at (colouring_of MAX_LINES cells) k) ≡ 0
code-past cells k past = code_none MAX_LINES cells k (omega (arith, past))

-- cells that are all 0 have the pack of no stone
pub pack_of_zeros : (count : ℕ) (cells bytes : List ℕ) → cells ≡ replicate count 0 → bytes ≡ replicate PACK_BYTES 0 →
    bytes ≡ packed_of (colouring_of MAX_LINES cells)
pack_of_zeros count cells bytes zeros none =
    let g = colouring_of MAX_LINES cells in
    let code : (k : ℕ) → code_of (colour_at g k) ≡ 0 = λ k. elim (cases_lt k MAX_POINTS) [
      | inl low ↦ code-at cells k low ∙ ap (λ (v : ℕ). code_of (colour_coded v)) (zero_cell count cells zeros k)
      | inr past ↦ code-past cells k past
    ] in
    packed_by g bytes (ap length none ∙ length-replicate {A = ℕ} PACK_BYTES 0)
    (λ i low. ap (λ (l : List ℕ). get_or l i 0) none ∙ get_or-replicate PACK_BYTES i 0 0 low ∙
    (let a = code (4 * i) in let b = code (4 * i + 1) in let c = code (4 * i + 2) in let d = code (4 * i + 3) in
    omega (arith, a, b, c, d)))

-- a write to a cell leaves the other colours
other_colour : (cells : List ℕ) (place number k : ℕ) → k ≢ place →
    colour_at (colouring_of MAX_LINES cells) k ≡ colour_at (colouring_of MAX_LINES (slice_set cells place number)) k
other_colour cells place number k other = elim (cases_lt k (MAX_LINES * MAX_LINES)) [
  | inl low ↦ colouring-at MAX_LINES cells k low ∙ ap colour_coded (sym (get_or-set_other cells place k number 0 other))
      ∙ sym (colouring-at MAX_LINES (slice_set cells place number) k low)
  | inr past ↦ get_or_past (colouring_of MAX_LINES cells) k None (omega (arith, length-colouring MAX_LINES cells, past))
      ∙ sym (get_or_past (colouring_of MAX_LINES (slice_set cells place number)) k None
      (omega (arith, length-colouring MAX_LINES (slice_set cells place number), past)))
]

-- the byte of a point with its code written is that of the cells after the write
pub written_byte : (cells bytes : List ℕ) (place number byte new code : ℕ) → place < MAX_POINTS →
    bytes ≡ packed_of (colouring_of MAX_LINES cells) → new < 256
    → byte ≡ slice_index bytes (place / 4) → code_in new (place % 4) ≡ code →
    ((k : ℕ) → k < 4 → k ≢ place % 4 → code_in new k ≡ code_in byte k) → code ≡ code_of (colour_coded number)
    → code_at (slice_set cells place number) place ≡ number →
    new ≡ byte_of (colouring_of MAX_LINES (slice_set cells place number)) (place / 4)
written_byte cells bytes place number byte new code low was fits read here others coded written =
    let g = colouring_of MAX_LINES cells in
    let h = colouring_of MAX_LINES (slice_set cells place number) in
    let at : 4 * (place / 4) + place % 4 ≡ place = omega arith in
    let place_code : code ≡ code_of (colour_at h (4 * (place / 4) + place % 4)) =
    coded ∙ ap (λ (v : ℕ). code_of (colour_coded v)) (sym written)
    ∙ sym (code-at (slice_set cells place number) place low) ∙ ap (λ (k : ℕ). code_of (colour_at h k)) (sym at) in
    byte_put g h (place / 4) (place % 4) code byte new fits
    (read ∙ ap (λ (l : List ℕ). slice_index l (place / 4)) was ∙ byte-at g (place / 4) (omega (arith, low)))
    here others place_code
    (λ k other. other_colour cells place number k (λ e. other (e ∙ sym at)))

-- a write to a colour cell changes the byte of its point alone
pub pack_written : (cells bytes : List ℕ) (place number byte : ℕ) → place < MAX_POINTS →
    bytes ≡ packed_of (colouring_of MAX_LINES cells)
    → byte ≡ byte_of (colouring_of MAX_LINES (slice_set cells place number)) (place / 4)
    → slice_set bytes (place / 4) byte ≡ packed_of (colouring_of MAX_LINES (slice_set cells place number))
pack_written cells bytes place number byte low was byte_is =
    let g = colouring_of MAX_LINES cells in
    let h = colouring_of MAX_LINES (slice_set cells place number) in
    let whole : length bytes ≡ PACK_BYTES = ap length was ∙ length-pack g in
    packed_by h (slice_set bytes (place / 4) byte) (length-set bytes (place / 4) byte ∙ whole)
    (λ i i_in. elim (cases_eq i (place / 4)) [
      | inl here ↦ ap (λ k. get_or (slice_set bytes (place / 4) byte) k 0) here
          ∙ get_or-set_same bytes (place / 4) byte 0 (omega (arith, whole, here, i_in)) ∙ byte_is
          ∙ ap (byte_of h) (sym here)
      | inr other ↦ get_or-set_other bytes (place / 4) i byte 0 other ∙ ap (λ (l : List ℕ). get_or l i 0) was
          ∙ byte-at g i i_in
          ∙ byte_same g h i (λ k first last.
          other_colour cells place number k (λ e. other (omega (arith, first, last, e))))
    ])

-- a write to another cell leaves the pack
pub pack_left : (cells bytes : List ℕ) (place number : ℕ) → MAX_POINTS ≤ place →
    bytes ≡ packed_of (colouring_of MAX_LINES cells)
    → bytes ≡ packed_of (colouring_of MAX_LINES (slice_set cells place number))
pack_left cells bytes place number past was =
    let g = colouring_of MAX_LINES cells in
    let h = colouring_of MAX_LINES (slice_set cells place number) in
    let same : (k : ℕ) → colour_at g k ≡ colour_at h k = λ k. elim (cases_lt k MAX_POINTS) [
      | inl low ↦ other_colour cells place number k (λ e. omega (arith, low, past, e))
      | inr off ↦ get_or_past g k None (omega (arith, length-colouring MAX_LINES cells, off))
          ∙ sym (get_or_past h k None (omega (arith, length-colouring MAX_LINES (slice_set cells place number), off)))
    ] in
    packed_by h bytes (ap length was ∙ length-pack g)
    (λ i low. ap (λ (l : List ℕ). get_or l i 0) was ∙ byte-at g i low ∙ byte_same g h i (λ k first last. same k))

-- each point of a board lies in the colouring of the largest one, so a byte of four of them is one of its pack
pub largest-at : (n : ℕ) (cells bytes : List ℕ) (i : ℕ) → n ≤ MAX_LINES → n * n ≤ MAX_POINTS → 4 * i + 3 < n * n →
    bytes ≡ packed_of (colouring_of MAX_LINES cells)
    → get_or bytes i 0 ≡ byte_of (colouring_of n cells) i
largest-at n cells bytes i small few inside is =
    ap (λ (l : List ℕ). get_or l i 0) is
    ∙ byte-at (colouring_of MAX_LINES cells) i (omega (arith, few, inside))
    ∙ byte_same (colouring_of MAX_LINES cells) (colouring_of n cells) i
    (λ k first last. colouring-at MAX_LINES cells k (omega (arith, few, inside, last))
    ∙ sym (colouring-at n cells k (omega (arith, inside, last))))

-- a stone put on a point changes the byte of that point alone
pub packed_put : (g : Colouring) (bytes : List ℕ) (place byte new code : ℕ) (c : Colour) → length g ≤ MAX_POINTS →
    place < length g → bytes ≡ packed_of g → new < 256
    → byte ≡ slice_index bytes (place / 4) → code_in new (place % 4) ≡ code →
    ((k : ℕ) → k < 4 → k ≢ place % 4 → code_in new k ≡ code_in byte k) → code ≡ code_of (Some c)
    → slice_set bytes (place / 4) new ≡ packed_of (slice_set g place (Some c))
packed_put g bytes place byte new code c few inside was fits read here others coded =
    let h = slice_set g place (Some c) in
    let whole : length bytes ≡ PACK_BYTES = ap length was ∙ length-pack g in
    let at : 4 * (place / 4) + place % 4 ≡ place = omega arith in
    let low : place / 4 < PACK_BYTES = omega (arith, few, inside) in
    let place_code : code ≡ code_of (colour_at h (4 * (place / 4) + place % 4)) =
    coded ∙ ap code_of (sym (get_or-set_same g place (Some c) None inside))
    ∙ ap (λ (k : ℕ). code_of (colour_at h k)) (sym at) in
    let same : (k : ℕ) → k ≢ place → colour_at g k ≡ colour_at h k = λ k off.
    sym (get_or-set_other g place k (Some c) None off) in
    let byte_is : new ≡ byte_of h (place / 4) =
    byte_put g h (place / 4) (place % 4) code byte new fits
    (read ∙ ap (λ (l : List ℕ). slice_index l (place / 4)) was ∙ byte-at g (place / 4) low)
    here others place_code (λ k other. same k (λ e. other (e ∙ sym at))) in
    packed_by h (slice_set bytes (place / 4) new) (length-set bytes (place / 4) new ∙ whole)
    (λ i i_in. elim (cases_eq i (place / 4)) [
      | inl is ↦ ap (λ k. get_or (slice_set bytes (place / 4) new) k 0) is
          ∙ get_or-set_same bytes (place / 4) new 0 (omega (arith, whole, is, i_in)) ∙ byte_is ∙ ap (byte_of h) (sym is)
      | inr other ↦ get_or-set_other bytes (place / 4) i new 0 other ∙ ap (λ (l : List ℕ). get_or l i 0) was
          ∙ byte-at g i i_in
          ∙ byte_same g h i (λ k first last. same k (λ e. other (omega (arith, first, last, e))))
    ])
