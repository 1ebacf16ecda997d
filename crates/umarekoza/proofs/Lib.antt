-- Tellings                   a reply is the answer that it tells
-- PacketPlaces, TextPlaces, EditPlaces   the place of an answer to a packet, a text, an edit fits 32 bits
-- RuledOutReplies            what is handed out with the answers of wrong programs is ruled out
mod Tellings
mod PacketPlaces
mod TextPlaces
mod EditPlaces
mod RuledOutReplies
