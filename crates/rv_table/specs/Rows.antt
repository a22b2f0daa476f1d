-- The instruction table of RV64I, M and A, and the row of a word.
use Rattle.std.specs.Prelude.{ℕ, Bool, ◌==◌, IsTrue, List, [], ◌∷◌, Option, bit_and, find, map}
use Rattle.rv_table.specs.declared.op.Form.{Form}
use Rattle.rv_table.specs.declared.op.Form.TheVariants.{U, J, I, Fence, B, S, Shift6, Shift5, R, Lr, Amo, Sys}
use Rattle.rv_table.specs.declared.op.Op.{Op}
use Rattle.rv_table.specs.declared.op.Op.TheVariants.{Lui, Auipc, Jal, Jalr, Lb, Lh, Lw, Ld, Lbu, Lhu, Lwu, Addi, Slti, Sltiu, Xori, Ori, Andi, Slli, Srli, Srai, Addiw, Slliw, Srliw, Sraiw, Fence, Beq, Bne, Blt, Bge, Bltu, Bgeu, Sb, Sh, Sw, Sd, Add, Sub, Sll, Slt, Sltu, Xor, Srl, Sra, Or, And, Mul, Mulh, Mulhsu, Mulhu, Div, Divu, Rem, Remu, Addw, Subw, Sllw, Srlw, Sraw, Mulw, Divw, Divuw, Remw, Remuw, LrW, LrD, ScW, AmoswapW, AmoaddW, AmoxorW, AmoandW, AmoorW, AmominW, AmomaxW, AmominuW, AmomaxuW, ScD, AmoswapD, AmoaddD, AmoxorD, AmoandD, AmoorD, AmominD, AmomaxD, AmominuD, AmomaxuD, Ecall, Ebreak}
use Rattle.rv_table.specs.declared.table.Row.{Row}
use Rattle.rv_table.specs.declared.table.TheConstants.{EBREAK}

-- the row with this form, mask, value and operation
abbrev pub row : Form → ℕ → ℕ → Op → Row
row form mask value op = record { mask = mask; value = value; form = form; op = op }

-- each operation's row, as the unprivileged specification's chapter "RV32/64G Instruction Set Listings" has it
unfoldable pub row_for : Op → Row
row_for Lui = row U 0x0000007f 0x00000037 Lui
row_for Auipc = row U 0x0000007f 0x00000017 Auipc
row_for Jal = row J 0x0000007f 0x0000006f Jal
row_for Jalr = row I 0x0000707f 0x00000067 Jalr
row_for Lb = row I 0x0000707f 0x00000003 Lb
row_for Lh = row I 0x0000707f 0x00001003 Lh
row_for Lw = row I 0x0000707f 0x00002003 Lw
row_for Ld = row I 0x0000707f 0x00003003 Ld
row_for Lbu = row I 0x0000707f 0x00004003 Lbu
row_for Lhu = row I 0x0000707f 0x00005003 Lhu
row_for Lwu = row I 0x0000707f 0x00006003 Lwu
row_for Addi = row I 0x0000707f 0x00000013 Addi
row_for Slti = row I 0x0000707f 0x00002013 Slti
row_for Sltiu = row I 0x0000707f 0x00003013 Sltiu
row_for Xori = row I 0x0000707f 0x00004013 Xori
row_for Ori = row I 0x0000707f 0x00006013 Ori
row_for Andi = row I 0x0000707f 0x00007013 Andi
row_for Slli = row Shift6 0xfc00707f 0x00001013 Slli
row_for Srli = row Shift6 0xfc00707f 0x00005013 Srli
row_for Srai = row Shift6 0xfc00707f 0x40005013 Srai
row_for Addiw = row I 0x0000707f 0x0000001b Addiw
row_for Slliw = row Shift5 0xfe00707f 0x0000101b Slliw
row_for Srliw = row Shift5 0xfe00707f 0x0000501b Srliw
row_for Sraiw = row Shift5 0xfe00707f 0x4000501b Sraiw
row_for Fence = row Fence 0x0000707f 0x0000000f Fence
row_for Beq = row B 0x0000707f 0x00000063 Beq
row_for Bne = row B 0x0000707f 0x00001063 Bne
row_for Blt = row B 0x0000707f 0x00004063 Blt
row_for Bge = row B 0x0000707f 0x00005063 Bge
row_for Bltu = row B 0x0000707f 0x00006063 Bltu
row_for Bgeu = row B 0x0000707f 0x00007063 Bgeu
row_for Sb = row S 0x0000707f 0x00000023 Sb
row_for Sh = row S 0x0000707f 0x00001023 Sh
row_for Sw = row S 0x0000707f 0x00002023 Sw
row_for Sd = row S 0x0000707f 0x00003023 Sd
row_for Add = row R 0xfe00707f 0x00000033 Add
row_for Sub = row R 0xfe00707f 0x40000033 Sub
row_for Sll = row R 0xfe00707f 0x00001033 Sll
row_for Slt = row R 0xfe00707f 0x00002033 Slt
row_for Sltu = row R 0xfe00707f 0x00003033 Sltu
row_for Xor = row R 0xfe00707f 0x00004033 Xor
row_for Srl = row R 0xfe00707f 0x00005033 Srl
row_for Sra = row R 0xfe00707f 0x40005033 Sra
row_for Or = row R 0xfe00707f 0x00006033 Or
row_for And = row R 0xfe00707f 0x00007033 And
row_for Mul = row R 0xfe00707f 0x02000033 Mul
row_for Mulh = row R 0xfe00707f 0x02001033 Mulh
row_for Mulhsu = row R 0xfe00707f 0x02002033 Mulhsu
row_for Mulhu = row R 0xfe00707f 0x02003033 Mulhu
row_for Div = row R 0xfe00707f 0x02004033 Div
row_for Divu = row R 0xfe00707f 0x02005033 Divu
row_for Rem = row R 0xfe00707f 0x02006033 Rem
row_for Remu = row R 0xfe00707f 0x02007033 Remu
row_for Addw = row R 0xfe00707f 0x0000003b Addw
row_for Subw = row R 0xfe00707f 0x4000003b Subw
row_for Sllw = row R 0xfe00707f 0x0000103b Sllw
row_for Srlw = row R 0xfe00707f 0x0000503b Srlw
row_for Sraw = row R 0xfe00707f 0x4000503b Sraw
row_for Mulw = row R 0xfe00707f 0x0200003b Mulw
row_for Divw = row R 0xfe00707f 0x0200403b Divw
row_for Divuw = row R 0xfe00707f 0x0200503b Divuw
row_for Remw = row R 0xfe00707f 0x0200603b Remw
row_for Remuw = row R 0xfe00707f 0x0200703b Remuw
row_for LrW = row Lr 0xf9f0707f 0x1000202f LrW
row_for LrD = row Lr 0xf9f0707f 0x1000302f LrD
row_for ScW = row Amo 0xf800707f 0x1800202f ScW
row_for AmoswapW = row Amo 0xf800707f 0x0800202f AmoswapW
row_for AmoaddW = row Amo 0xf800707f 0x0000202f AmoaddW
row_for AmoxorW = row Amo 0xf800707f 0x2000202f AmoxorW
row_for AmoandW = row Amo 0xf800707f 0x6000202f AmoandW
row_for AmoorW = row Amo 0xf800707f 0x4000202f AmoorW
row_for AmominW = row Amo 0xf800707f 0x8000202f AmominW
row_for AmomaxW = row Amo 0xf800707f 0xa000202f AmomaxW
row_for AmominuW = row Amo 0xf800707f 0xc000202f AmominuW
row_for AmomaxuW = row Amo 0xf800707f 0xe000202f AmomaxuW
row_for ScD = row Amo 0xf800707f 0x1800302f ScD
row_for AmoswapD = row Amo 0xf800707f 0x0800302f AmoswapD
row_for AmoaddD = row Amo 0xf800707f 0x0000302f AmoaddD
row_for AmoxorD = row Amo 0xf800707f 0x2000302f AmoxorD
row_for AmoandD = row Amo 0xf800707f 0x6000302f AmoandD
row_for AmoorD = row Amo 0xf800707f 0x4000302f AmoorD
row_for AmominD = row Amo 0xf800707f 0x8000302f AmominD
row_for AmomaxD = row Amo 0xf800707f 0xa000302f AmomaxD
row_for AmominuD = row Amo 0xf800707f 0xc000302f AmominuD
row_for AmomaxuD = row Amo 0xf800707f 0xe000302f AmomaxuD
row_for Ecall = row Sys 0xffffffff 0x00000073 Ecall
row_for Ebreak = row Sys 0xffffffff 0x00100073 Ebreak

-- the operations of RV64I, M and A, grouped by major opcode
unfoldable pub the_ops : List Op
the_ops =
    Lui ∷ Auipc ∷ Jal ∷ Jalr ∷ Lb ∷ Lh ∷ Lw ∷ Ld ∷ Lbu ∷ Lhu ∷ Lwu ∷ Addi ∷ Slti ∷ Sltiu ∷ Xori ∷
    Ori ∷ Andi ∷ Slli ∷ Srli ∷ Srai ∷ Addiw ∷ Slliw ∷ Srliw ∷ Sraiw ∷ Fence ∷ Beq ∷ Bne ∷ Blt ∷
    Bge ∷ Bltu ∷ Bgeu ∷ Sb ∷ Sh ∷ Sw ∷ Sd ∷ Add ∷ Sub ∷ Sll ∷ Slt ∷ Sltu ∷ Xor ∷ Srl ∷ Sra ∷ Or ∷
    And ∷ Mul ∷ Mulh ∷ Mulhsu ∷ Mulhu ∷ Div ∷ Divu ∷ Rem ∷ Remu ∷ Addw ∷ Subw ∷ Sllw ∷ Srlw ∷
    Sraw ∷ Mulw ∷ Divw ∷ Divuw ∷ Remw ∷ Remuw ∷ LrW ∷ LrD ∷ ScW ∷ AmoswapW ∷ AmoaddW ∷ AmoxorW ∷
    AmoandW ∷ AmoorW ∷ AmominW ∷ AmomaxW ∷ AmominuW ∷ AmomaxuW ∷ ScD ∷ AmoswapD ∷ AmoaddD ∷
    AmoxorD ∷ AmoandD ∷ AmoorD ∷ AmominD ∷ AmomaxD ∷ AmominuD ∷ AmomaxuD ∷ Ecall ∷ Ebreak ∷ []

-- the instruction table
unfoldable pub the_rows : List Row
the_rows = map row_for the_ops

-- the word's bits under the row's mask are the row's value
abbrev pub matches : ℕ → Row → Bool
matches word r = bit_and word r.mask == r.value

-- the row of a word: the one that it matches
unfoldable pub row_of : ℕ → Option Row
row_of word = find (matches word) the_rows

-- no word matches both rows
abbrev pub Disjoint : Row → Row → Type 0
Disjoint r s = (word : ℕ) → IsTrue (matches word r) → IsTrue (matches word s) → ⊥

-- the word of ebreak
abbrev pub ebreak_word : ℕ
ebreak_word = EBREAK
