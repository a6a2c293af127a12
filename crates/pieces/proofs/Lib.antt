-- An update in line as it arrives: in any pieces (Firm), with the bytes that were read forgotten (Forgets); and cases C and D and a mark (Cases).
pub mod Firm
pub mod Forgets
pub mod Cases
