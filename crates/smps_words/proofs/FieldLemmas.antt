-- The first six fields of each line of a text are fields: at least one byte, none of them a blank or a line feed.
use Rattle.std.proofs.Common.{◌≡◌, ◌∙◌, ◌||◌, ◌+◌, ap, ℕ, zero, suc, Bool, true, false, List, [], ◌∷◌, refl, nat_eq, arith, if◌then◌else◌}
use Rattle.std.specs.List.{AllByRecursion}
use Rattle.smps_words.specs.Line.{is_blank, grow, split_lines, starts_field, fields_of, clip, is_skipped, TextLine, line_of, read_lines, reading_of}
use Rattle.smps_words.specs.Field.{IsField}

abbrev Clean : ℕ → Type 0
Clean byte = (is_blank byte || nat_eq byte 10) ≡ false

abbrev NoFeed : List ℕ → Type 0
NoFeed bytes = AllByRecursion (λ byte. nat_eq byte 10 ≡ false) bytes

grow_line : (byte : ℕ) (lines : List (List ℕ)) → nat_eq byte 10 ≡ false → AllByRecursion NoFeed lines → AllByRecursion NoFeed (grow byte lines)
grow_line byte [] here all = ((here, tt), tt)
grow_line byte (line ∷ lines) here all = ((here, all.0), all.1)

-- a line has no line feed
no_feed : (bytes : List ℕ) → AllByRecursion NoFeed (split_lines bytes)
no_feed [] = tt
no_feed (byte ∷ bytes) = go (nat_eq byte 10) refl (no_feed bytes)
  where
    go : (feed : Bool) → nat_eq byte 10 ≡ feed → AllByRecursion NoFeed (split_lines bytes)
        → AllByRecursion NoFeed (if feed then [] ∷ split_lines bytes else grow byte (split_lines bytes))
    go true is all = (tt, all)
    go false is all = grow_line byte (split_lines bytes) is all

abbrev IsPiece : List ℕ → Type 0
IsPiece [] = ⊥
IsPiece (byte ∷ bytes) = Clean byte × AllByRecursion Clean bytes

grow_piece : (byte : ℕ) (pieces : List (List ℕ)) → Clean byte → AllByRecursion IsPiece pieces → AllByRecursion IsPiece (grow byte pieces)
grow_piece byte [] here all = ((here, tt), tt)
grow_piece byte ([] ∷ pieces) here all = absurd all.0
grow_piece byte ((first ∷ piece) ∷ pieces) here all = ((here, all.0), all.1)

pieces_are : (bytes : List ℕ) → NoFeed bytes → AllByRecursion IsPiece (fields_of bytes)
pieces_are [] feed = tt
pieces_are (byte ∷ bytes) feed = go (is_blank byte) (starts_field bytes) refl (pieces_are bytes feed.1)
  where
    clean : is_blank byte ≡ false → Clean byte
    clean is = ap (λ b. b || nat_eq byte 10) is ∙ feed.0

    go : (blank starts : Bool) → is_blank byte ≡ blank → AllByRecursion IsPiece (fields_of bytes)
        → AllByRecursion IsPiece (if blank then fields_of bytes else (if starts then grow byte (fields_of bytes) else (byte ∷ []) ∷ fields_of bytes))
    go true starts is all = all
    go false true is all = grow_piece byte (fields_of bytes) (clean is) all
    go false false is all = ((clean is, tt), all)

piece_field : (name : List ℕ) → IsPiece name → IsField name
piece_field [] piece = absurd piece
piece_field (byte ∷ bytes) piece = record { some = omega arith; unbroken = piece }

-- the first so many of these are fields
abbrev pub AreFields : ℕ → List (List ℕ) → Type 0
AreFields zero fields = Unit {0}
AreFields (suc count) [] = Unit {0}
AreFields (suc count) (field ∷ fields) = IsField field × AreFields count fields

clipped : (room : ℕ) (fields : List (List ℕ)) → AllByRecursion IsPiece fields → AreFields room (clip room fields)
clipped zero [] all = tt
clipped zero (field ∷ fields) all = tt
clipped (suc room) [] all = tt
clipped (suc room) (field ∷ fields) all = (piece_field field all.0, clipped room fields all.1)

-- of a line; a seventh stands for all further ones
abbrev pub HasFields : TextLine → Type 0
HasFields line = AreFields 6 line.fields

lines_are : (before : ℕ) (pieces : List (List ℕ)) → AllByRecursion NoFeed pieces → AllByRecursion HasFields (read_lines before pieces)
lines_are before [] feed = tt
lines_are before (bytes ∷ pieces) feed = go (is_skipped bytes) (lines_are (before + 1) pieces feed.1)
  where
    go : (skipped : Bool) → AllByRecursion HasFields (read_lines (before + 1) pieces)
        → AllByRecursion HasFields (if skipped then read_lines (before + 1) pieces else line_of (before + 1) bytes ∷ read_lines (before + 1) pieces)
    go true all = all
    go false all = (clipped 6 (fields_of bytes) (pieces_are bytes feed.0), all)

pub text_fields : (text : List ℕ) → AllByRecursion HasFields (reading_of 0 text).lines
text_fields text = lines_are 0 (split_lines text) (no_feed text)
