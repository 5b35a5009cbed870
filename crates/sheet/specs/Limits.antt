-- The numbers of document 01, each named once: limits, bit places, and bounds that arithmetic needs. Definitions.
use Rattle.std.specs.Prelude.{ℕ}

-- LIMITS of a sheet: "at most 48 slots, 8 colours and 32 sites"; P is at most 64
abbrev pub most_slots : ℕ
most_slots = 48

abbrev pub most_colours : ℕ
most_colours = 8

abbrev pub most_sites : ℕ
most_sites = 32

abbrev pub most_budgets : ℕ
most_budgets = 64

-- the words of an accepted sheet: one head, one charge, and as many slots, colours and sites as there may be
abbrev pub most_words : ℕ
most_words = 90

-- the bound that means unbounded
abbrev pub unbounded : ℕ
unbounded = 255

-- FIELDS: the kind is in bits 31 to 28, so a word's other bits are below 2^28
abbrev pub kind_top : ℕ
kind_top = 268435456

-- the side is bit 27 of a head (2^27)
abbrev pub side_place : ℕ
side_place = 134217728

-- a word is below 2^32
abbrev pub word_top : ℕ
word_top = 4294967296

-- the greatest word, 2^32 - 1; as a cost it stands for none
abbrev pub top_word : ℕ
top_word = 4294967295

-- a number above every x, y, height, width and charge: they have 14 bits (2^14); and the greatest of them
abbrev pub number_top : ℕ
number_top = 16384

abbrev pub most_number : ℕ
most_number = 16383

-- the greatest share of a site: the greatest drop and the greatest charge
abbrev pub most_share : ℕ
most_share = 32766

-- a bound or a slot in a word has 8 bits (2^8)
abbrev pub byte_top : ℕ
byte_top = 256

-- a layout's length is in bits 20 to 0 of its first word (2^21), and its count in the seven bits above it (2^7)
abbrev pub length_top : ℕ
length_top = 2097152

abbrev pub count_top : ℕ
count_top = 128

-- THE TABLE of the largest sheet: how many ends a strip may have (a slot or one of two edges, and a colour or none:
-- most_slots + 2 times most_colours + 1), the rows of a level, one for each strip and mark (most_ends² times optimum's mark_count), the words of
-- a level (most_budgets for each row) and of all levels (most_sites + 1 of them). So no place of a table is too large a number.
abbrev pub most_ends : ℕ
most_ends = 450

abbrev pub most_rows : ℕ
most_rows = 202500

abbrev pub most_level : ℕ
most_level = 12960000

abbrev pub most_table : ℕ
most_table = 427680000
